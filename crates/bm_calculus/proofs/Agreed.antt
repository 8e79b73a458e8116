-- Who has authorised a move is found once, and then asked for each input.
use Rattle.std.proofs.Common.{◌≡◌, ℕ, List, [], ◌∷◌, Bool, true, false, refl}
use Rattle.std.specs.Prelude.{◌&&◌, ◌||◌, if◌then◌else◌}
use Rattle.std.specs.List.{list_all}
use Rattle.std.specs.Str.{bytes_eq}
use Rattle.spec_data.specs.Lists.{is_among}
use Rattle.spec_calculus.specs.declared.step.Owner.{Owner}
use Rattle.spec_calculus.specs.declared.step.Owner.TheVariants.{Party, Outside}
use Rattle.spec_calculus.specs.declared.step.Move.{Move}
use Rattle.spec_calculus.specs.declared.parts.Deposit.{Deposit}
use Rattle.spec_calculus.specs.declared.parts.MoveAuthorisation.{MoveAuthorisation}
use Rattle.spec_calculus.specs.Moves.{has_authorised, has_agreed, owner_at}
use Rattle.spec_calculus.specs.Same.{move_eq}
use Rattle.bm_calculus.specs.Agreed.{agreed, is_agreed}

among_agreed : (authorised : List MoveAuthorisation) (party : List ℕ) (action : Move)
    → is_among party (agreed authorised action) ≡ has_authorised authorised party action
among_agreed [] party action = refl
among_agreed (a ∷ rest) party action =
    by_tests (bytes_eq a.party party) (move_eq a.action action) refl (among_agreed rest party action)
  where
    by_tests : (b m : Bool) → bytes_eq a.party party ≡ b
        → is_among party (agreed rest action) ≡ has_authorised rest party action
        → is_among party (if m then a.party ∷ agreed rest action else agreed rest action)
        ≡ (b && m || has_authorised rest party action)
    by_tests true true e ih = rw e refl
    by_tests false true e ih = rw e ih
    by_tests true false e ih = ih
    by_tests false false e ih = ih

owner_agreed : (authorised : List MoveAuthorisation) (action : Move) (owner : Owner)
    → is_agreed (agreed authorised action) owner ≡ has_agreed authorised action owner
owner_agreed authorised action (Party party) = among_agreed authorised party action
owner_agreed authorised action Outside = refl

pub all_agreed : (deposits : List Deposit) (authorised : List MoveAuthorisation) (action : Move) (inputs : List ℕ)
    → list_all (λ n. is_agreed (agreed authorised action) (owner_at deposits n)) inputs
    ≡ list_all (λ n. has_agreed authorised action (owner_at deposits n)) inputs
all_agreed deposits authorised action [] = refl
all_agreed deposits authorised action (n ∷ ns) =
    rw (owner_agreed authorised action (owner_at deposits n), all_agreed deposits authorised action ns) refl
