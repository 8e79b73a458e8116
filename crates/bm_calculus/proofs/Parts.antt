-- A split has a value for each part, and makes a contract for each value.
use Rattle.std.proofs.Common.{◌≡◌, ℕ, ◌+◌, List, [], ◌∷◌, length, suc, refl, ap}
use Rattle.spec_calculus.specs.Branches.{part_values, parts_made}
use Rattle.spec_terms.specs.declared.path.PathStep.{PathStep}
use Rattle.bm_syntax.specs.View.{parts_view}
use Rattle.bm_syntax.specs.declared.term.Part.{Part}

pub values_length : (ps : List Part) → length (part_values (parts_view ps)) ≡ length ps
values_length [] = refl
values_length (p ∷ ps) = ap suc (values_length ps)

pub made_length : (next contract : ℕ) (path : List PathStep) (k : ℕ) (values : List ℕ)
    → length (parts_made next contract path k values) ≡ length values
made_length next contract path k [] = refl
made_length next contract path k (v ∷ values) = ap suc (made_length (next + 1) contract path (k + 1) values)
