use Rattle.std.proofs.Common.{◌%◌, ◌∙◌, ap}
use Rattle.spec_curve.specs.Field.{field_prime, times}
use Rattle.curve_field.proofs.ring.multiply.Goals as goal

pub returns-clause-same : goal.returns-clause-same
unfolding times
returns-clause-same c = c.reduce.ensures.same ∙ ap (λ z. z % field_prime) c.product.ensures
