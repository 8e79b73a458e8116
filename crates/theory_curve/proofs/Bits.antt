-- One more bit of an exponent or of a scalar, behind those that are taken in.
use Rattle.std.proofs.Common.{◌≡◌, ℕ, suc, ◌+◌, ◌*◌, ◌/◌, ◌%◌, arith, refl}
use Rattle.std.proofs.lemmas.Bool.{eq-eqb, ne_eqb}
use Rattle.spec_curve.specs.Field.{times, power}
use Rattle.spec_curve.specs.Point.{Point, double, add, multiple}

half_even : (k : ℕ) → k * 2 / 2 ≡ k
half_even k = omega arith

half_odd : (k : ℕ) → (k * 2 + 1) / 2 ≡ k
half_odd k = omega arith

even_ends : (k : ℕ) → k * 2 % 2 ≡ 1 → ⊥
even_ends k e = omega arith

odd_ends : (k : ℕ) → (k * 2 + 1) % 2 ≡ 1
odd_ends k = omega arith

pub power_even : (bits m a k : ℕ) → power (suc bits) m a (k * 2) ≡ times m (power bits m a k) (power bits m a k)
unfolding power
power_even bits m a k = rw (ne_eqb (k * 2 % 2) 1 (even_ends k), power, half_even k) refl

pub power_odd : (bits m a k : ℕ) → power (suc bits) m a (k * 2 + 1) ≡ times m (times m (power bits m a k) (power bits m a k)) a
unfolding power
power_odd bits m a k = rw (eq-eqb ((k * 2 + 1) % 2) 1 (odd_ends k), power, half_odd k) refl

pub multiple_even : (bits k : ℕ) (a : Point) → multiple (suc bits) (k * 2) a ≡ double (multiple bits k a)
unfolding multiple
multiple_even bits k a = rw (ne_eqb (k * 2 % 2) 1 (even_ends k), multiple, half_even k) refl

pub multiple_odd : (bits k : ℕ) (a : Point) → multiple (suc bits) (k * 2 + 1) a ≡ add (double (multiple bits k a)) a
unfolding multiple
multiple_odd bits k a = rw (eq-eqb ((k * 2 + 1) % 2) 1 (odd_ends k), multiple, half_odd k) refl
