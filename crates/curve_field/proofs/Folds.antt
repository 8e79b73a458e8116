-- A number of which what stands at 2^256 is folded into what is below: p is the modulus, c what 2^256 is more than p.
use Rattle.std.proofs.Common.{◌≡◌, ℕ, ◌+◌, ◌*◌, ◌%◌, ◌^◌, ◌<◌, arith, ap, sym, ◌∙◌, inl, inr}
use Rattle.std.proofs.Math.Nat.{mod-eq_of_lt, add-mul-mod_self_left, eq-zero-or-pos}
use Rattle.spec_curve.specs.Field.{field_prime}

-- one fold more leaves the remainder alone
pub fold_same : (p c lo hi f t : ℕ) → f + (p + c) * t ≡ hi * c + lo → (f + (p + c) * t) % p ≡ (lo + (p + c) * hi) % p
fold_same p c lo hi f t e =
    let a : lo + (p + c) * hi ≡ (f + (p + c) * t) + p * hi = omega (arith, e) in
    sym (ap (λ z. z % p) a ∙ add-mul-mod_self_left (f + (p + c) * t) p hi)

-- the remainder, from the quotient
pub rest_is : (p x v j : ℕ) → x ≡ v + p * j → v < p → v ≡ x % p
rest_is p x v j e h = sym (ap (λ z. z % p) e ∙ (add-mul-mod_self_left v p j ∙ mod-eq_of_lt h))

-- l + 2^256 * t is below twice the prime, and v is what is left of l + c
pub record Finished (l t v : ℕ) : Type 0 where
  pub below : v < field_prime
  pub same : v ≡ (l + 2 ^ 256 * t) % field_prime

pub finish_more : (l t v k : ℕ) → l < 2 ^ 256 → v < 2 ^ 256 → l + 2 ^ 256 * t < 2 * field_prime → v + 2 ^ 256 * k ≡ 4294968273 + l → 0 < t + k → Finished l t v
finish_more l t v k hl hv hx e p =
    let one : l + 2 ^ 256 * t ≡ v + field_prime * 1 =
    elim (eq-zero-or-pos t) [
      | inl z ↦ let s : k ≡ 1 = omega (arith, z) in omega (arith, z, s)
      | inr g ↦ let s : t ≡ 1 = omega arith in let r : k ≡ 0 = omega (arith, s) in omega (arith, s, r)
    ] in
    let two : v < field_prime = omega (arith, one) in
    record { below = two; same = rest_is field_prime (l + 2 ^ 256 * t) v 1 one two }

pub finish_less : (l t v k : ℕ) → l < 2 ^ 256 → v < 2 ^ 256 → v + 2 ^ 256 * k ≡ 4294968273 + l → t ≡ 0 → k ≡ 0 → Finished l t l
finish_less l t v k hl hv e z y =
    let two : l < field_prime = omega arith in
    record { below = two; same = rest_is field_prime (l + 2 ^ 256 * t) l 0 (omega arith) two }
