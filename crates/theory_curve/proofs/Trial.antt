-- Small primes, by trial division.
use Rattle.std.proofs.Common.{◌≡◌, ℕ, zero, suc, ◌+◌, ◌-◌, ◌*◌, ◌%◌, ◌<◌, ◌≤◌, arith, refl, inl, inr, Bool, true, false, ltb}
use Rattle.std.proofs.Math.Nat.{eq-zero-or-pos}
use Rattle.std.proofs.lemmas.Bool.{ltb-true}
use Rattle.theory_curve.specs.Prime.{Prime}
use Rattle.theory_curve.proofs.Pocklington.{Small, small_of, root_below}

-- no number from 2 up to k + 1 divides n
abbrev pub tried : ℕ → ℕ → Bool
tried n zero = true
tried n (suc k) = elim (ltb 0 (n % (2 + k))) [ true ↦ tried n k | false ↦ false ]

and_left : (a : Bool) (b : Bool) → elim a as (λ _. Bool) [ true ↦ b | false ↦ false ] ≡ true → (a ≡ true) × (b ≡ true)
and_left true b h = (refl, h)
and_left false b h = cc

tried_is : (n k : ℕ) → tried n k ≡ true → (d : ℕ) → 1 < d → d < 2 + k → 0 < n % d
tried_is n zero h d a b = absurd (omega arith)
tried_is n (suc k) h d a b =
    let both = and_left (ltb 0 (n % (2 + k))) (tried n k) h in
    elim (eq-zero-or-pos ((2 + k) - d)) [
      | inl e ↦ let same : 2 + k ≡ d = omega (arith, e, b) in rw (← same) (ltb-true 0 (n % (2 + k)) both.0)
      | inr g ↦ tried_is n k both.1 d a (omega (arith, g))
    ]

-- k is at least the root
pub prime_by_trial : (n k : ℕ) → 1 < n → n < k * k → tried n k ≡ true → Prime n
prime_by_trial n k above l h = record {
  above = above;
  none = λ d g b. elim (eq-zero-or-pos (n % d)) [
    | inl e ↦
        let s : Small n = small_of n d g b e in
        let root : s.number ≤ k = root_below s.number k n s.square l in
        let more : 0 < n % s.number = tried_is n k h s.number s.prime.above (omega (arith, root)) in
        absurd (omega (arith, more, s.divides))
    | inr p ↦ p
  ];
}
