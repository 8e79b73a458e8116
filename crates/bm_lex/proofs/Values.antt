-- The value of digits.
use Rattle.std.proofs.Common.{◌≡◌, ℕ, ◌+◌, ◌-◌, ◌*◌, ◌<◌, ◌≤◌, List, [], ◌∷◌, length, drop, None, refl, arith, add-one, get_or, drop-cons}
use Rattle.std.proofs.lemmas.Bool.Decides.{nat_tests}
use Rattle.spec_data.specs.Digits.{value_from, below}

-- further digits make a number no smaller
pub value_from-least : (n : ℕ) (bytes : List ℕ) → n ≤ value_from n bytes
value_from-least n [] = omega arith
value_from-least n (b ∷ bytes) = omega (arith, value_from-least (n * 10 + (b - 48)) bytes)

pub below-great : (bound n : ℕ) → bound ≤ n → below bound n ≡ None
below-great bound n h = grind (arith, nat_tests)

-- the next digit
pub value_from-at : (n : ℕ) (bytes : List ℕ) (i : ℕ) → i < length bytes → value_from n (drop i bytes)
    ≡ value_from (n * 10 + (get_or bytes i 0 - 48)) (drop (i + 1) bytes)
value_from-at n bytes i less = rw (drop-cons bytes i 0 less, add-one i) refl

-- a number that has grown too great stays so
pub stays_great : (bound n : ℕ) (bytes : List ℕ) (i : ℕ) → i < length bytes → bound ≤ n * 10 + (get_or bytes i 0 - 48)
    → below bound (value_from n (drop i bytes)) ≡ None
stays_great bound n bytes i less h =
    rw (value_from-at n bytes i less) (below-great bound _ (omega (arith, h, value_from-least (n * 10 + (get_or bytes i 0 - 48)) (drop (i + 1) bytes))))
