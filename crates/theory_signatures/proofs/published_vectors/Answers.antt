-- Each by computation alone.
use Rattle.std.proofs.Common.{refl, ◌≡◌, true, false}
use Rattle.spec_curve.specs.Field.{plus, minus, times, power, inverse, root}
use Rattle.spec_curve.specs.Point.{double, add, multiple}
use Rattle.spec_curve.specs.Key.{square_at, of_sign, point_at, point}
use Rattle.spec_curve.specs.Verify.{has_first, sum_of}
use Rattle.spec_curve.specs.Verify as plain
use Rattle.spec_curve.specs.Signature.{is_signature}
use Rattle.theory_signatures.specs.Vectors.{verifies, first, second, third, exchanged}
use Rattle.theory_signatures.proofs.published_vectors.Goals as goal

first_verifies : verifies first ≡ true
unfolding verifies is_signature point point_at square_at of_sign plain.verifies sum_of has_first multiple add double root inverse power times plus minus
first_verifies = refl

first_exchanged : verifies (exchanged first) ≡ false
unfolding verifies is_signature point point_at square_at of_sign plain.verifies sum_of has_first multiple add double root inverse power times plus minus
first_exchanged = refl

second_verifies : verifies second ≡ true
unfolding verifies is_signature point point_at square_at of_sign plain.verifies sum_of has_first multiple add double root inverse power times plus minus
second_verifies = refl

second_exchanged : verifies (exchanged second) ≡ false
unfolding verifies is_signature point point_at square_at of_sign plain.verifies sum_of has_first multiple add double root inverse power times plus minus
second_exchanged = refl

third_verifies : verifies third ≡ true
unfolding verifies is_signature point point_at square_at of_sign plain.verifies sum_of has_first multiple add double root inverse power times plus minus
third_verifies = refl

third_exchanged : verifies (exchanged third) ≡ false
unfolding verifies is_signature point point_at square_at of_sign plain.verifies sum_of has_first multiple add double root inverse power times plus minus
third_exchanged = refl

pub returns : goal.returns
returns c = record {
  first_verifies = first_verifies;
  first_exchanged = first_exchanged;
  second_verifies = second_verifies;
  second_exchanged = second_exchanged;
  third_verifies = third_verifies;
  third_exchanged = third_exchanged;
}
