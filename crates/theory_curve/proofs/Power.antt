-- Powers by squares, and inverses modulo a prime.
use Rattle.std.proofs.Common.{◌≡◌, ℕ, zero, suc, ◌+◌, ◌-◌, ◌*◌, ◌/◌, ◌%◌, ◌^◌, ◌<◌, ◌≤◌, arith, refl, ap, sym, ◌∙◌, inl, inr}
use Rattle.std.proofs.Math.Nat.{pow-zero, pow-suc, mod-lt, div-add-mod, mod-eq_of_lt}
use Rattle.std.proofs.lemmas.Nat.{pow-add}
use Rattle.std.proofs.lemmas.Bool.{eq-eqb, ne_eqb, cases_eq}
use Rattle.theory_curve.specs.Prime.{Prime}
use Rattle.spec_curve.specs.Field.{times, power, inverse}
use Rattle.theory_curve.proofs.Congruent.{Same, same_refl, same_of, same_sym, same_trans, same_add, same_mul, same_mod}
use Rattle.theory_curve.proofs.Fermat.{fermat}
use Rattle.theory_curve.proofs.Pocklington.{Witness, first_power}

power_odd : (bits m a k : ℕ) → k % 2 ≡ 1 → power (suc bits) m a k ≡ times m (times m (power bits m a (k / 2)) (power bits m a (k / 2))) a
unfolding power
power_odd bits m a k e = rw (eq-eqb (k % 2) 1 e, power)

power_even : (bits m a k : ℕ) → (k % 2 ≡ 1 → ⊥) → power (suc bits) m a k ≡ times m (power bits m a (k / 2)) (power bits m a (k / 2))
unfolding power
power_even bits m a k e = rw (ne_eqb (k % 2) 1 e, power)

power_none : (m a k : ℕ) → power zero m a k ≡ 1 % m
unfolding power
power_none m a k = refl

times_is : (m a b : ℕ) → Same m (times m a b) (a * b)
unfolding times
times_is m a b = same_mod m (a * b)

pub power_is : (bits m a k : ℕ) → k < 2 ^ bits → Same m (power bits m a k) (a ^ k)
power_is zero m a k h =
    let e : k ≡ 0 = omega (arith, pow-zero 2) in
    same_trans (same_of m _ _ (power_none m a k)) (same_trans (same_mod m 1) (same_of m 1 (a ^ k) (sym (ap (λ z. a ^ z) e ∙ pow-zero a))))
power_is (suc bits) m a k h =
    let j : ℕ = k / 2 in
    let small : j < 2 ^ bits = omega (arith, pow-suc 2 bits, div-add-mod k 2) in
    let ih : Same m (power bits m a j) (a ^ j) = power_is bits m a j small in
    let square : Same m (times m (power bits m a j) (power bits m a j)) (a ^ (j + j)) =
    same_trans (times_is m _ _) (same_trans (same_mul ih ih) (same_of m _ _ (sym (pow-add a j j)))) in
    elim (cases_eq (k % 2) 1) [
      | inl odd ↦
          let whole : (j + j) + 1 ≡ k = omega (arith, div-add-mod k 2, odd) in
          same_trans (same_of m _ _ (power_odd bits m a k odd))
          (same_trans (times_is m _ a) (same_trans (same_mul square (same_of m _ _ (sym (first_power a))))
          (same_of m _ _ (sym (pow-add a (j + j) 1) ∙ ap (λ z. a ^ z) whole))))
      | inr even ↦
          let none : k % 2 ≡ 0 = omega (arith, mod-lt k {m = 2} (omega arith), even) in
          let whole : j + j ≡ k = omega (arith, div-add-mod k 2, none) in
          same_trans (same_of m _ _ (power_even bits m a k even)) (same_trans square (same_of m _ _ (ap (λ z. a ^ z) whole)))
    ]

turned : (a b : ℕ) → b * a ≡ a * b
turned a b = omega arith

inverse_is : (m a : ℕ) → inverse m a ≡ power 256 m a (m - 2)
unfolding inverse
inverse_is m a = refl

-- the power m - 2 is the inverse modulo a prime m
pub inverts_at : (k a : ℕ) → Prime (suc (suc k)) → suc (suc k) ≤ 2 ^ 256 → 0 < a → a < suc (suc k) → Same (suc (suc k)) (a * inverse (suc (suc k)) a) 1
inverts_at k a p l h b =
    let m : ℕ = suc (suc k) in
    let e : suc (suc k) - 2 ≡ k = omega arith in
    let one : Same (suc (suc k)) (inverse (suc (suc k)) a) (a ^ k) =
    same_trans (same_of (suc (suc k)) _ _ (inverse_is (suc (suc k)) a ∙ ap (λ z. power 256 (suc (suc k)) a z) e)) (power_is 256 (suc (suc k)) a k (omega arith)) in
    same_trans (same_mul (same_refl (suc (suc k)) a) one)
    (same_trans (same_of (suc (suc k)) (a * a ^ k) (a ^ suc k) (turned (a ^ k) a ∙ sym (pow-suc a k))) (fermat (suc k) a p h b))

-- what the test of Pocklington needs, by powers that compute
pub witness_of : (bits n q m a b : ℕ) → n ≡ q * m + 1 → 1 < n → q * m < 2 ^ bits → m < 2 ^ bits
    → power bits n a (q * m) ≡ 1 → ((power bits n a m + (n - 1)) * b) % n ≡ 1 → Witness n q m a b
witness_of bits n q m a b e h c d f g = record {
  parts = e;
  above = h;
  whole = same_trans (same_sym (power_is bits n a (q * m) c)) (same_of n _ _ f);
  apart =
      same_trans (same_mul (same_add (same_sym (power_is bits n a m d)) (same_refl n (n - 1))) (same_refl n b))
      (record { is = g ∙ sym (mod-eq_of_lt h) });
}
