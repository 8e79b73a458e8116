-- No value of an expression lies farther from zero than its bound.
use Rattle.std.proofs.Common.{◌≡◌, ℕ, suc, ◌+◌, ◌≤◌, ◌<◌, ◌^◌, List, [], ◌∷◌, Bool, true, false, arith}
use Rattle.std.specs.Prelude.{ℤ, pos, negsuc, ◌+ℤ◌, ◌-ℤ◌, ◌≤ℤ◌, neg_ℤ, unsigned_abs, All, if◌then◌else◌, Some}
use Rattle.std.specs.Str.{bytes_eq}
use Rattle.std.proofs.lemmas.Int.{ints}
use Rattle.spec_data.specs.Lists.{look_up}
use Rattle.spec_data.specs.Ranges.{most_item_bytes}
use Rattle.spec_terms.specs.Term.{Expr, constant, length_of, plus, minus}
use Rattle.spec_terms.specs.Bound.{held, bound}
use Rattle.spec_terms.specs.Value.{length_or_zero, length_in, value}
use Rattle.bm_pred.specs.Within.{BoundsEveryValue}

-- no length is of more bytes than an item has
abbrev AreShort : List (List ℕ × ℕ) → Type 0
AreShort lengths = All (λ (e : List ℕ × ℕ). e.1 ≤ most_item_bytes) lengths

taken : (t : Bool) (n : ℕ) (name : List ℕ) (es : List (List ℕ × ℕ)) → n ≤ most_item_bytes → length_in es name ≤ most_item_bytes
    → length_or_zero (if t then Some n else look_up name es) ≤ most_item_bytes
taken true n name es h k = h
taken false n name es h k = k

length_short : (name : List ℕ) (es : List (List ℕ × ℕ)) → AreShort es → length_in es name ≤ most_item_bytes
length_short name [] h = omega arith
length_short name (e ∷ es) h =
    taken (bytes_eq e.0 name) e.1 name es (h 0 e (omega arith)) (length_short name es (λ k d l. h (suc k) d (omega (arith, l))))

-- a whole number that is at most so far from zero
record Within (n : ℕ) (z : ℤ) : Type 0 where
  low : neg_ℤ (pos n) ≤ℤ z
  high : z ≤ℤ pos n

small_value : (n m : ℕ) → n ≤ m → Within m (pos n)
small_value n m h = record { low = omega (arith, ints, h); high = omega (arith, ints, h) }

sum_within : (a b : ℕ) (x y : ℤ) → Within a x → Within b y → Within (a + b) (x +ℤ y)
sum_within a b x y h k = record { low = omega (arith, ints, h.low, k.low); high = omega (arith, ints, h.high, k.high) }

difference_within : (a b : ℕ) (x y : ℤ) → Within a x → Within b y → Within (a + b) (x -ℤ y)
difference_within a b x y h k = record { low = omega (arith, ints, h.low, k.high); high = omega (arith, ints, h.high, k.low) }

value_within : (lengths : List (List ℕ × ℕ)) → AreShort lengths → (f : Expr) → Within (bound f) (value lengths f)
value_within lengths short (constant n) = small_value n n (omega arith)
value_within lengths short (length_of name) = small_value (length_in lengths name) most_item_bytes (length_short name lengths short)
value_within lengths short (plus e f) = sum_within _ _ _ _ (value_within lengths short e) (value_within lengths short f)
value_within lengths short (minus e f) = difference_within _ _ _ _ (value_within lengths short e) (value_within lengths short f)

size_within : (n : ℕ) (z : ℤ) → Within n z → unsigned_abs z ≤ n
size_within n (pos m) h = omega (arith, ints, h.high)
size_within n (negsuc m) h = omega (arith, ints, h.low)

not_held : (n b : ℕ) → n ≡ held b → n < 2 ^ 63 → n ≡ b
not_held n b e h = omega (arith, e, h)

pub bounds_values : (n : ℕ) (f : Expr) → n ≡ held (bound f) → n < 2 ^ 63 → BoundsEveryValue n f
bounds_values n f e h lengths short = rw (not_held n (bound f) e h) (size_within (bound f) (value lengths f) (value_within lengths short f))
