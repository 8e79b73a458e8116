-- From a triple to the point that it stands for; and the step of a scalar multiplication.
use Rattle.std.proofs.Common.{◌≡◌, ℕ, suc, ◌+◌, ◌*◌, ◌/◌, ◌%◌, ◌^◌, arith, ap}
use Rattle.std.proofs.lemmas.Nat.{shr-shr}
use Rattle.std.proofs.lemmas.Bool.{eq-eqb, ne_eqb}
use Rattle.spec_curve.specs.Field.{field_prime, times, inverse}
use Rattle.spec_curve.specs.Point.{Point, double, add, multiple}
use Rattle.theory_curve.specs.Jacobian.{Triple, StandsAt, Inverts}
use Rattle.theory_curve.proofs.Congruent.{Same, same_refl, same_of, same_trans, same_mul, same_eq, times_is, times_below}
use Rattle.theory_curve.proofs.Nonzero.{undone}
use Rattle.theory_curve.proofs.Doubled.{times_more}

pub affine_first : Inverts field_prime → (t : Triple) (x y : ℕ) → StandsAt t x y
    → times field_prime t.x (times field_prime (inverse field_prime t.z) (inverse field_prime t.z)) ≡ x
affine_first i t x y h =
    let p : ℕ = field_prime in
    let z : ℕ = inverse field_prime t.z in
    let one : Same field_prime (t.z * z) 1 = undone i t.z h.nonzero in
    let two : Same field_prime (times field_prime t.x (times field_prime z z)) ((x * (t.z * t.z)) * (z * z)) =
    same_trans (times_is field_prime t.x (times field_prime z z)) (same_mul (record { is = h.first }) (times_is field_prime z z)) in
    let three : Same field_prime ((x * (t.z * t.z)) * (z * z)) (x * (1 * 1)) =
    same_trans (same_of field_prime ((x * (t.z * t.z)) * (z * z)) (x * ((t.z * z) * (t.z * z))) (omega arith))
    (same_mul (same_refl field_prime x) (same_mul one one)) in
    same_eq (same_trans two (same_trans three (same_of field_prime (x * (1 * 1)) x (omega arith))))
    (times_below field_prime t.x (times field_prime z z) (omega arith)) h.x_below

pub affine_second : Inverts field_prime → (t : Triple) (x y : ℕ) → StandsAt t x y
    → let z : ℕ = inverse field_prime t.z in times field_prime t.y (times field_prime z (times field_prime z z)) ≡ y
affine_second i t x y h =
    let z : ℕ = inverse field_prime t.z in
    let one : Same field_prime (t.z * z) 1 = undone i t.z h.nonzero in
    let cube : Same field_prime (times field_prime z (times field_prime z z)) (z * (z * z)) = times_more field_prime z (times field_prime z z) (z * z) (times_is field_prime z z) in
    let two : Same field_prime (times field_prime t.y (times field_prime z (times field_prime z z))) ((y * (t.z * t.z * t.z)) * (z * (z * z))) =
    same_trans (times_is field_prime t.y (times field_prime z (times field_prime z z))) (same_mul (record { is = h.second }) cube) in
    let three : Same field_prime ((y * (t.z * t.z * t.z)) * (z * (z * z))) (y * (1 * (1 * 1))) =
    same_trans (same_of field_prime ((y * (t.z * t.z * t.z)) * (z * (z * z))) (y * ((t.z * z) * ((t.z * z) * (t.z * z)))) (omega arith))
    (same_mul (same_refl field_prime y) (same_mul one (same_mul one one))) in
    same_eq (same_trans two (same_trans three (same_of field_prime (y * (1 * (1 * 1))) y (omega arith))))
    (times_below field_prime t.y (times field_prime z (times field_prime z z)) (omega arith)) h.y_below

-- the bit j of k is taken in: what stands above it is half of what stands at it
above_bit : (k j : ℕ) → k / 2 ^ j / 2 ≡ k / 2 ^ (j + 1)
above_bit k j = shr-shr k j 1

pub multiple_set : (i j k : ℕ) (a : Point) → k / 2 ^ j % 2 ≡ 1 → multiple (suc i) (k / 2 ^ j) a ≡ add (double (multiple i (k / 2 ^ (j + 1)) a)) a
unfolding multiple
multiple_set i j k a e = rw (eq-eqb (k / 2 ^ j % 2) 1 e, multiple) (ap (λ z. add (double (multiple i z a)) a) (above_bit k j))

pub multiple_clear : (i j k : ℕ) (a : Point) → (k / 2 ^ j % 2 ≡ 1 → ⊥) → multiple (suc i) (k / 2 ^ j) a ≡ double (multiple i (k / 2 ^ (j + 1)) a)
unfolding multiple
multiple_clear i j k a e = rw (ne_eqb (k / 2 ^ j % 2) 1 e, multiple) (ap (λ z. double (multiple i z a)) (above_bit k j))
