use Rattle.std.proofs.Common.{◌∙◌, ap}
use Rattle.spec_curve.specs.Field.{field_prime, power, root}
use Rattle.curve_field.specs.Value.{value}
use Rattle.curve_field.proofs.Exponents.{root_exponent_is}
use Rattle.curve_field.proofs.inverse.root.Goals as goal

pub returns-clause-same : goal.returns-clause-same
unfolding root
returns-clause-same c = c.power.ensures.same ∙ ap (λ z. power 256 field_prime (value c.args.x) z) root_exponent_is
