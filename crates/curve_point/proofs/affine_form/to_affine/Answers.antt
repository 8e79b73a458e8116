use Rattle.std.proofs.Common.{◌≡◌, ℕ, ◌<◌, ◌∙◌, arith, rules, ap, refl}
use Rattle.spec_curve.specs.Field.{field_prime, times, inverse}
use Rattle.theory_curve.specs.Jacobian.{Triple, Stands}
use Rattle.spec_curve.specs.Point.{Point, infinity, at}
use Rattle.theory_curve.proofs.Affine.{affine_first, affine_second}
use Rattle.theory_curve.proofs.Inverts.{field_inverts}
use Rattle.curve_field.specs.Value.{value}
use Rattle.curve_point.specs.Coordinates.{triple_of}
use Rattle.curve_point.proofs.affine_form.to_affine.Goals as goal

nowhere : (t : Triple) (q : Point) → t.z ≡ 0 → Stands t q → infinity ≡ q
nowhere t infinity e h = refl
nowhere t (at x y) e h = absurd (omega (arith, e, h.nonzero.above))

somewhere : (t : Triple) (q : Point) (u v z : ℕ) → 0 < t.z → z ≡ inverse field_prime t.z
    → u ≡ times field_prime t.x (times field_prime z z) → v ≡ times field_prime t.y (times field_prime z (times field_prime z z))
    → Stands t q → at u v ≡ q
somewhere t infinity u v z p i e f h = absurd (omega (arith, p, h))
somewhere t (at x y) u v z p i e f h =
    let first : u ≡ x = e ∙ (ap (λ w. times field_prime t.x (times field_prime w w)) i ∙ affine_first field_inverts t x y h) in
    let second : v ≡ y = f ∙ (ap (λ w. times field_prime t.y (times field_prime w (times field_prime w w))) i ∙ affine_second field_inverts t x y h) in
    λ j. at (first j) (second j)

pub returns-then-is_zero-clause-same : goal.returns-then-is_zero-clause-same
returns-then-is_zero-clause-same c =
    let none : value c.args.t.z ≡ 0 = first_of (search rules, grind arith) in
    λ q h. nowhere (triple_of c.args.t) q none h

pub returns-clause-same : goal.returns-clause-same
returns-clause-same c =
    let some : 0 < value c.args.t.z = first_of (search rules, grind arith) in
    λ q h. somewhere (triple_of c.args.t) q (value c.divided.result.x) (value c.divided.result.y) (value c.invert.result)
    some c.invert.ensures.same c.divided.ensures.x c.divided.ensures.y h
