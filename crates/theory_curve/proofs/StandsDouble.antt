-- The doubled triple stands for the doubled point, whatever the triple stands for.
use Rattle.std.proofs.Common.{◌≡◌, ℕ, ◌*◌, ◌%◌, ◌<◌, arith, ap, sym, subst, ◌∙◌}
use Rattle.std.proofs.Math.Nat.{zero-mod}
use Rattle.std.proofs.lemmas.Bool.{eq-eqb, ne_eqb}
use Rattle.spec_curve.specs.Field.{field_prime, times, inverse}
use Rattle.spec_curve.specs.Point.{infinity, at, double, third}
use Rattle.theory_curve.specs.Jacobian.{Triple, Positive, StandsAt, Stands, Inverts, doubled}
use Rattle.theory_curve.proofs.Congruent.{Same, same_refl, same_of, same_sym, same_trans, same_mul, same_eq, times_is, minus_below, times_below}
use Rattle.theory_curve.proofs.Nonzero.{positive_times}
use Rattle.theory_curve.proofs.Doubled.{double_any}

double_none : (x y : ℕ) → y ≡ 0 → double (at x y) ≡ infinity
unfolding double
double_none x y e = rw (eq-eqb y 0 e, double)

double_some : (x y : ℕ) → 0 < y → double (at x y)
    ≡ third (times field_prime (times field_prime 3 (times field_prime x x)) (inverse field_prime (times field_prime 2 y))) x y x
unfolding double
double_some x y h = let ne : y ≡ 0 → ⊥ = λ e. omega (arith, e, h) in rw (ne_eqb y 0 ne, double)

mul_none : (a : ℕ) → a * 0 ≡ 0
mul_none a = omega arith

two_zero : (a : ℕ) → a ≡ 0 → times field_prime 2 a ≡ 0
unfolding times
two_zero a e = rw e

times_zero : (m a b c : ℕ) → b ≡ 0 → times m a (times m c b) ≡ 0
unfolding times
times_zero m a b c e = rw e (ap (λ z. (a * z) % m) (ap (λ z. z % m) (mul_none c) ∙ zero-mod m) ∙ (ap (λ z. z % m) (mul_none a) ∙ zero-mod m))

-- at infinity
pub doubled_none : (t : Triple) → t.z ≡ 0 → Stands (doubled t) (double infinity)
unfolding double
doubled_none t e = times_zero field_prime 2 t.z t.y e

-- at a point of second coordinate 0
pub doubled_flat : (t : Triple) (x y : ℕ) → StandsAt t x y → y ≡ 0 → Stands (doubled t) (double (at x y))
doubled_flat t x y h e =
    let none : Same field_prime (times field_prime t.y t.z) 0 =
    same_trans (times_is field_prime t.y t.z)
    (same_trans (same_mul (record { is = h.second }) (same_refl field_prime t.z))
    (same_of field_prime ((y * (t.z * t.z * t.z)) * t.z) 0 (ap (λ z. (z * (t.z * t.z * t.z)) * t.z) e ∙ omega arith))) in
    let zero_ : times field_prime t.y t.z ≡ 0 = same_eq none (times_below field_prime t.y t.z (omega arith)) (omega arith) in
    subst (Stands (doubled t)) (sym (double_none x y e)) (two_zero (times field_prime t.y t.z) zero_)

-- at any other point
pub doubled_some : Inverts field_prime → (t : Triple) (x y : ℕ) → StandsAt t x y → 0 < y → Stands (doubled t) (double (at x y))
doubled_some i t x y h p =
    let pos : 0 < field_prime = omega arith in
    let py : Positive field_prime y = record { above = p; below = h.y_below } in
    let flat : Same field_prime t.y (y * (t.z * t.z * t.z)) = record { is = h.second } in
    let cube : Positive field_prime (times field_prime (times field_prime t.z t.z) t.z) = positive_times i _ _ (positive_times i t.z t.z h.nonzero h.nonzero) h.nonzero in
    let high : Positive field_prime (times field_prime y (times field_prime (times field_prime t.z t.z) t.z)) = positive_times i _ _ py cube in
    let whole : Same field_prime t.y (times field_prime y (times field_prime (times field_prime t.z t.z) t.z)) =
    same_trans flat (same_sym (same_trans (times_is field_prime y _) (same_mul (same_refl field_prime y)
    (same_trans (times_is field_prime (times field_prime t.z t.z) t.z) (same_mul (times_is field_prime t.z t.z) (same_refl field_prime t.z)))))) in
    let same : t.y ≡ times field_prime y (times field_prime (times field_prime t.z t.z) t.z) = same_eq whole h.t_below high.below in
    let pt : Positive field_prime t.y = subst (Positive field_prime) (sym same) high in
    let two : Positive field_prime 2 = record { above = omega arith; below = omega arith } in
    let d = double_any field_prime x y t.x t.y t.z i (omega arith) h.x_below py h.nonzero (record { is = h.first }) flat in
    subst (Stands (doubled t)) (sym (double_some x y p)) (record {
      nonzero = positive_times i 2 (times field_prime t.y t.z) two (positive_times i t.y t.z pt h.nonzero);
      first = d.first.is;
      second = d.second.is;
      x_below = minus_below field_prime _ _ pos;
      y_below = minus_below field_prime _ _ pos;
      s_below = minus_below field_prime _ _ pos;
      t_below = minus_below field_prime _ _ pos;
    })
