-- Lemmas on the words of specs/Lists.
use Rattle.std.proofs.Common.{◌≡◌, ℕ, ◌+◌, List, [], ◌∷◌, Bool, true, false, refl}
use Rattle.std.specs.Prelude.{Option, None, Some, if◌then◌else◌}
use Rattle.spec_data.specs.Lists.{first_false, AllTrue, first_reason, NoneTrue, or_else}

-- tests that are all true have no first false one
pub all_true-first_false : (n : ℕ) (bs : List Bool) → AllTrue bs → first_false n bs ≡ 0
all_true-first_false n [] h = refl
all_true-first_false n (b ∷ bs) h = rw h.0 (all_true-first_false (n + 1) bs h.1)

-- a test that gave no answer is false, and what comes after it gave none
no_reason-first : {R : Type 0} (b : Bool) (r : R) (o : Option R) → (if b then Some r else o) ≡ None → (b ≡ false) × (o ≡ None)
no_reason-first true r o h = cc
no_reason-first false r o h = (refl, h)

-- a row that gave no answer has only false tests
pub no_reason-none_true : {R : Type 0} (row : List (Bool × R)) → first_reason row ≡ None → NoneTrue row
no_reason-none_true [] h = tt
no_reason-none_true (p ∷ ps) h = let f = no_reason-first p.0 (p.1) (first_reason ps) h in (f.0, no_reason-none_true ps f.1)

-- where neither of two gives an answer
pub or_else-none : {R : Type 0} (a b : Option R) → or_else a b ≡ None → (a ≡ None) × (b ≡ None)
or_else-none None b h = (refl, h)
or_else-none (Some r) b h = cc
