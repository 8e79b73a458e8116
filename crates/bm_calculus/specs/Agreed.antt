-- The parties that have authorised a move.
use Rattle.std.specs.Prelude.{ℕ, Bool, true, if◌then◌else◌, List, [], ◌∷◌}
use Rattle.spec_data.specs.Lists.{is_among}
use Rattle.spec_calculus.specs.declared.step.Owner.{Owner}
use Rattle.spec_calculus.specs.declared.step.Owner.TheVariants.{Party, Outside}
use Rattle.spec_calculus.specs.declared.step.Move.{Move}
use Rattle.spec_calculus.specs.declared.parts.MoveAuthorisation.{MoveAuthorisation}
use Rattle.spec_calculus.specs.Same.{move_eq}

abbrev pub agreed : List MoveAuthorisation → Move → List (List ℕ)
agreed [] action = []
agreed (a ∷ rest) action = if move_eq a.action action then a.party ∷ agreed rest action else agreed rest action

-- whether an owner is one of these parties; someone outside needn't be
abbrev pub is_agreed : List (List ℕ) → Owner → Bool
is_agreed parties (Party party) = is_among party parties
is_agreed parties Outside = true
