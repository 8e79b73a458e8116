use Rattle.std.proofs.Common.{◌∙◌, ap}
use Rattle.spec_curve.specs.Field.{group_order, power, inverse}
use Rattle.curve_field.specs.Value.{value}
use Rattle.curve_order.proofs.Folds.{exponent_is}
use Rattle.curve_order.proofs.inverse.invert.Goals as goal

pub returns-clause-same : goal.returns-clause-same
unfolding inverse
returns-clause-same c = c.power.ensures.same ∙ ap (λ z. power 256 group_order (value c.args.x) z) exponent_is
