-- Each by computation alone.
use Rattle.std.proofs.Common.{refl, ◌≡◌, true, false}
use Rattle.std.specs.Prelude.{codes}
use Rattle.spec_curve.specs.Field.{plus, minus, times, power, inverse, root}
use Rattle.spec_curve.specs.Point.{double, add, multiple}
use Rattle.spec_curve.specs.Key.{square_at, of_sign, point_at, point}
use Rattle.spec_curve.specs.Verify.{has_first, sum_of}
use Rattle.spec_curve.specs.Verify as plain
use Rattle.spec_curve.specs.Signature.{is_signature}
use Rattle.theory_signatures.specs.Bytes.{bytes_of}
use Rattle.theory_signatures.specs.Published.{verifies, spelled, native, nested, nested_script, turned}
use Rattle.theory_signatures.proofs.published_signatures.Goals as goal

native_verifies : verifies native ≡ true
unfolding verifies is_signature point point_at square_at of_sign plain.verifies sum_of has_first multiple add double root inverse power times plus minus
native_verifies = refl

native_turned : verifies (turned native) ≡ false
unfolding verifies is_signature point point_at square_at of_sign plain.verifies sum_of has_first multiple add double root inverse power times plus minus
native_turned = refl

nested_verifies : verifies nested ≡ true
unfolding verifies is_signature point point_at square_at of_sign plain.verifies sum_of has_first multiple add double root inverse power times plus minus
nested_verifies = refl

nested_turned : verifies (turned nested) ≡ false
unfolding verifies is_signature point point_at square_at of_sign plain.verifies sum_of has_first multiple add double root inverse power times plus minus
nested_turned = refl

nested_script_verifies : verifies nested_script ≡ true
unfolding verifies is_signature point point_at square_at of_sign plain.verifies sum_of has_first multiple add double root inverse power times plus minus
nested_script_verifies = refl

nested_script_turned : verifies (turned nested_script) ≡ false
unfolding verifies is_signature point point_at square_at of_sign plain.verifies sum_of has_first multiple add double root inverse power times plus minus
nested_script_turned = refl

other_key : verifies (record native { key = nested.key }) ≡ false
unfolding verifies is_signature point point_at square_at of_sign plain.verifies sum_of has_first multiple add double root inverse power times plus minus
other_key = refl

other_sign : verifies (record native { key = bytes_of (codes "035476c2e83188368da1ff3e292e7acafcdb3566bb0ad253f62fc70f07aeee6357") }) ≡ false
unfolding verifies is_signature point point_at square_at of_sign plain.verifies sum_of has_first multiple add double root inverse power times plus minus
other_sign = refl

other_r : verifies (record native { signature = spelled (codes "3609e17b84f6a7d30c80bfa610b5b4542f32a8a0d5447a12fb1366d7f01cc44b") (codes "573a954c4518331561406f90300e8f3358f51928d43c212a8caed02de67eebee") }) ≡ false
unfolding verifies is_signature point point_at square_at of_sign plain.verifies sum_of has_first multiple add double root inverse power times plus minus
other_r = refl

other_s : verifies (record native { signature = spelled (codes "3609e17b84f6a7d30c80bfa610b5b4542f32a8a0d5447a12fb1366d7f01cc44a") (codes "573a954c4518331561406f90300e8f3358f51928d43c212a8caed02de67eebef") }) ≡ false
unfolding verifies is_signature point point_at square_at of_sign plain.verifies sum_of has_first multiple add double root inverse power times plus minus
other_s = refl

pub returns : goal.returns
returns c = record {
  native_verifies = native_verifies;
  native_turned = native_turned;
  nested_verifies = nested_verifies;
  nested_turned = nested_turned;
  nested_script_verifies = nested_script_verifies;
  nested_script_turned = nested_script_turned;
  other_key = other_key;
  other_sign = other_sign;
  other_r = other_r;
  other_s = other_s;
}
