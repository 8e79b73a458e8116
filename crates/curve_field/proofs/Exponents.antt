-- The exponents of inverses and roots.
use Rattle.std.proofs.Common.{◌≡◌, ℕ, ◌+◌, ◌-◌, ◌/◌, ◌%◌, ◌<◌, refl}
use Rattle.std.proofs.Math.Nat.{mod-eq_of_lt}
use Rattle.spec_curve.specs.Field.{field_prime, power}
use Rattle.curve_field.specs.Value.{value}

pub power_none : (m a k : ℕ) → 1 < m → power 0 m a k ≡ 1
unfolding power
power_none m a k h = mod-eq_of_lt h

pub inverse_exponent_is : value (record {
  w0 = 0xFFFFFFFEFFFFFC2D;
  w1 = 0xFFFFFFFFFFFFFFFF;
  w2 = 0xFFFFFFFFFFFFFFFF;
  w3 = 0xFFFFFFFFFFFFFFFF;
}) ≡ field_prime - 2
unfolding value
inverse_exponent_is = refl

pub root_exponent_is : value (record { w0 = 0xFFFFFFFFBFFFFF0C; w1 = 0xFFFFFFFFFFFFFFFF; w2 = 0xFFFFFFFFFFFFFFFF; w3 = 0x3FFFFFFFFFFFFFFF })
    ≡ (field_prime + 1) / 4
unfolding value
root_exponent_is = refl
