-- A number that is read bit by bit from the highest, word by word.
use Rattle.std.proofs.Common.{◌≡◌, ℕ, suc, ◌+◌, ◌-◌, ◌*◌, ◌/◌, ◌%◌, ◌^◌, ◌<◌, arith, ap, ◌∙◌}
use Rattle.std.proofs.lemmas.Nat.{shr-shr}
use Rattle.std.proofs.Math.Nat.{pow-suc, div-add-mod}

-- one bit more of the word w, behind the number h
pub next_bit : (h w b : ℕ) → b < 64 → 2 * (h * 2 ^ b + w / 2 ^ (64 - b)) + w / 2 ^ (63 - b) % 2 ≡ h * 2 ^ (b + 1) + w / 2 ^ (64 - (b + 1))
next_bit h w b l =
    let v : ℕ = w / 2 ^ (63 - b) in
    let place : 63 - b + 1 ≡ 64 - b = omega arith in
    let after : 64 - (b + 1) ≡ 63 - b = omega arith in
    let half : v / 2 ≡ w / 2 ^ (64 - b) = shr-shr w (63 - b) 1 ∙ ap (λ z. w / 2 ^ z) place in
    let power : h * 2 ^ (b + 1) ≡ 2 * (h * 2 ^ b) = ap (λ z. h * z) (ap (λ z. 2 ^ z) (let s : b + 1 ≡ suc b = omega arith in s) ∙ pow-suc 2 b) ∙ omega arith in
    let low : w / 2 ^ (64 - (b + 1)) ≡ v = ap (λ z. w / 2 ^ z) after in
    omega (arith, power, low, half, div-add-mod v 2)

-- no bit yet
pub first_bit : (h w : ℕ) → w < 2 ^ 64 → h * 2 ^ 0 + w / 2 ^ (64 - 0) ≡ h
first_bit h w l = omega arith

-- all bits
pub last_bit : (h w b : ℕ) → b ≡ 64 → h * 2 ^ b + w / 2 ^ (64 - b) ≡ h * 2 ^ 64 + w
last_bit h w b e = ap (λ z. h * 2 ^ z + w / 2 ^ (64 - z)) e ∙ omega arith
