-- Modulo a prime each number but 0 has an inverse: by Euclid's remainders.
use Rattle.std.proofs.Common.{◌≡◌, ℕ, zero, suc, ◌+◌, ◌-◌, ◌*◌, ◌/◌, ◌%◌, ◌<◌, ◌≤◌, arith, ap, ◌∙◌, inl, inr}
use Rattle.std.proofs.Math.Nat.{eq-zero-or-pos, mod-lt, div-add-mod}
use Rattle.theory_curve.specs.Prime.{Prime}
use Rattle.theory_curve.proofs.Congruent.{Same, same_refl, same_of, same_sym, same_trans, same_add, same_mul, same_cancel, same_more}

pub record Inverse (m a : ℕ) : Type 0 where
  pub number : ℕ
  pub is : Same m (a * number) 1

-- from the inverse of the remainder r of m by a
inverse_step : (m k a q r s : ℕ) → m ≡ k + 1 → a * q + r ≡ m → Same m (r * s) 1 → Same m (a * (k * (q * s))) 1
inverse_step m k a q r s e f h =
    let pos : 0 < m = omega arith in
    let one : a * (k * (q * s)) + k * (r * s) ≡ (k * s) * (a * q + r) = omega arith in
    let two : (k * s) * (a * q + r) ≡ 0 + m * (k * s) = ap (λ z. (k * s) * z) f ∙ omega arith in
    let three : Same m (a * (k * (q * s)) + k * (r * s)) 0 = same_trans (same_of m _ _ (one ∙ two)) (same_more m 0 (k * s)) in
    let four : Same m (a * (k * (q * s)) + k) (a * (k * (q * s)) + k * (r * s)) =
    same_add (same_refl m _) (same_trans (same_of m k (k * 1) (omega arith)) (same_mul (same_refl m k) (same_sym h))) in
    let five : Same m (1 + k) 0 = same_trans (same_of m (1 + k) (0 + m * 1) (omega arith)) (same_more m 0 1) in
    same_cancel k pos (same_trans four (same_trans three (same_sym five)))

inverse_below : (m n a : ℕ) → Prime m → a ≤ n → 0 < a → a < m → Inverse m a
inverse_below m zero a p l h b = absurd (omega arith)
inverse_below m (suc n) a p l h b =
    elim (eq-zero-or-pos (a - 1)) [
      | inl e ↦ let one : a ≡ 1 = omega (arith, e, h) in record { number = 1; is = same_of m (a * 1) 1 (omega (arith, one)) }
      | inr g ↦
          let r : ℕ = m % a in
          let positive : 0 < r = p.none a (omega (arith, g)) b in
          let small : r < a = mod-lt m h in
          let i : Inverse m r = inverse_below m n r p (omega (arith, small, l)) positive (omega (arith, small, b)) in
          record {
            number = (m - 1) * (m / a * i.number);
            is = inverse_step m (m - 1) a (m / a) r i.number (omega (arith, p.above)) (div-add-mod m a) i.is;
          }
    ]

pub inverse_of : (m a : ℕ) → Prime m → 0 < a → a < m → Inverse m a
inverse_of m a p h b = inverse_below m a a p (omega arith) h b

-- a common factor that has an inverse
pub same_undo : {m a b : ℕ} (c : ℕ) → Inverse m c → Same m (c * a) (c * b) → Same m a b
same_undo {m = m} {a = a} {b = b} c i h =
    let back : (x : ℕ) → Same m (i.number * (c * x)) x =
    λ x. same_trans (same_of m (i.number * (c * x)) ((c * i.number) * x) (omega arith))
    (same_trans (same_mul i.is (same_refl m x)) (same_of m (1 * x) x (omega arith))) in
    same_trans (same_sym (back a)) (same_trans (same_mul (same_refl m i.number) h) (back b))
