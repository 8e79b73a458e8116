-- Each by computation alone.
use Rattle.std.proofs.Common.{refl}
use Rattle.spec_curve.specs.Field.{minus, times, power, inverse}
use Rattle.spec_curve.specs.Point.{double, add, multiple}
use Rattle.theory_signatures.proofs.multiples_of_base.Goals as goal

pub returns : goal.returns
unfolding multiple add double inverse power times minus
returns c = record {
  two = refl;
  three = refl;
  last = refl;
  all = refl;
  equal = refl;
  opposite = refl;
}
