-- Each by computation alone.
use Rattle.std.proofs.Common.{refl}
use Rattle.spec_curve.specs.Field.{plus, minus, times, power, root}
use Rattle.spec_curve.specs.Key.{square_at, of_sign, point_at, point}
use Rattle.theory_signatures.proofs.keys_and_points.Goals as goal

pub returns : goal.returns
unfolding point point_at square_at of_sign root power times plus minus
returns c = record {
  point_of_1 = refl;
  point_of_2 = refl;
  point_of_3 = refl;
  point_of_4 = refl;
  no_point_of_5 = refl;
  point_of_6 = refl;
  no_point_of_7 = refl;
  point_of_8 = refl;
  no_point_of_9 = refl;
  no_point_of_10 = refl;
  no_point_of_11 = refl;
  above_the_prime = refl;
  other_sign = refl;
  short = refl;
  even = refl;
  odd = refl;
}
