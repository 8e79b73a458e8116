-- Each by computation alone.
use Rattle.std.proofs.Common.{refl}
use Rattle.spec_curve.specs.Field.{plus, minus, times, power, inverse, root}
use Rattle.spec_curve.specs.Point.{double, add, multiple}
use Rattle.spec_curve.specs.Key.{square_at, of_sign, point_at, point}
use Rattle.spec_curve.specs.Verify.{has_first, sum_of}
use Rattle.spec_curve.specs.Verify as plain
use Rattle.spec_curve.specs.Signature.{is_signature}
use Rattle.theory_signatures.specs.Vectors.{verifies}
use Rattle.theory_signatures.proofs.numbers_at_bounds.Goals as goal

pub returns : goal.returns
unfolding verifies is_signature point point_at square_at of_sign plain.verifies sum_of has_first multiple add double root inverse power times plus minus
returns c = record {
  equal_halves = refl;
  opposite_halves = refl;
  digest_zero = refl;
  digest_of_order = refl;
  zero_r = refl;
  zero_s = refl;
  order_r = refl;
  order_s = refl;
  far_first = refl;
  far_r = refl;
  far_s = refl;
}
