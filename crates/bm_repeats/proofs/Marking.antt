-- Numbers are marked in a row.
use Rattle.std.proofs.Common.{◌≡◌, ℕ, zero, suc, ◌<◌, List, Bool, true, false, cond, length, replicate, refl, subst, slice_set, slice_index_or, arith}
use Rattle.std.specs.Prelude.{◌==◌, ◌≢◌}
use Rattle.std.proofs.lemmas.Bool.Decides.{nat_tests}
use Rattle.std.proofs.lemmas.List.{get_or-set_same, get_or-set_other}

-- whether a number is marked
abbrev pub is_marked : List Bool → ℕ → Bool
is_marked marks n = slice_index_or marks n false

pub unmarked : (n i : ℕ) → is_marked (replicate n false) i ≡ false
unmarked zero i = refl
unmarked (suc n) zero = refl
unmarked (suc n) (suc i) = unmarked n i

same_numbers : (a b : ℕ) → a == b ≡ true → a ≡ b
same_numbers a b h = grind arith

other_numbers : (a b : ℕ) → a == b ≡ false → b ≢ a
other_numbers a b h s = let same : a == b ≡ true = grind (arith, nat_tests) in cc

pub flipped : (a b : ℕ) → a == b ≡ b == a
flipped a b = grind (arith, nat_tests)

-- one more is marked
pub marked : (marks : List Bool) (n : ℕ) → n < length marks → (q : ℕ) → is_marked (slice_set marks n true) q ≡ cond (n == q) true (is_marked marks q)
marked marks n lt q =
    elim (n == q) as (λ b. n == q ≡ b → is_marked (slice_set marks n true) q ≡ cond b true (is_marked marks q)) [
      | true ↦ λ t. subst (λ k. is_marked (slice_set marks n true) k ≡ true) (same_numbers n q t) (get_or-set_same marks n true false lt)
      | false ↦ λ t. get_or-set_other marks n q true false (other_numbers n q t)
    ] refl
