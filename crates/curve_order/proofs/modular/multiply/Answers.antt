use Rattle.std.proofs.Common.{◌%◌, ◌∙◌, ap}
use Rattle.spec_curve.specs.Field.{group_order, times}
use Rattle.curve_order.proofs.modular.multiply.Goals as goal

pub returns-clause-same : goal.returns-clause-same
unfolding times
returns-clause-same c = c.reduce.ensures.same ∙ ap (λ z. z % group_order) c.product.ensures
