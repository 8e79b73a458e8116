-- How large a number is that bytes spell.
use Rattle.std.proofs.Common.{◌≡◌, ℕ, ◌+◌, ◌*◌, ◌^◌, ◌<◌, ◌≤◌, List, [], ◌∷◌, length, get_or, ap, arith}
use Rattle.std.proofs.Math.Nat.{pow-suc}
use Rattle.spec_curve.specs.Key.{number_from, number_of}

number_above : (n : ℕ) (bytes : List ℕ) → n * 256 ^ length bytes ≤ number_from n bytes
number_above n [] = omega arith
number_above n (b ∷ bytes) =
    let power : n * 256 ^ length (b ∷ bytes) ≡ n * (256 ^ length bytes * 256) = ap (λ z. n * z) (pow-suc 256 (length bytes)) in
    omega (arith, number_above (n * 256 + b) bytes, power)

-- 33 bytes of which the first isn't 0
pub number_of_33 : (bytes : List ℕ) → length bytes ≡ 33 → 0 < get_or bytes 0 0 → 2 ^ 256 ≤ number_of bytes
number_of_33 [] e p = absurd (omega (arith, e))
number_of_33 (b ∷ bytes) e p =
    let rest : length bytes ≡ 32 = omega arith in
    let power : (0 * 256 + b) * 256 ^ length bytes ≡ (0 * 256 + b) * 256 ^ 32 = ap (λ k. (0 * 256 + b) * 256 ^ k) rest in
    omega (arith, number_above (0 * 256 + b) bytes, power, p)
