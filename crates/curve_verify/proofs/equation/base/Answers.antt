use Rattle.std.proofs.Common.{lit<, refl}
use Rattle.curve_field.specs.Value.{value}
use Rattle.curve_verify.proofs.equation.base.Goals as goal

pub returns-clause-below : goal.returns-clause-below
unfolding value
returns-clause-below c = record { x = lit< tt; y = lit< tt }

pub returns-clause-same : goal.returns-clause-same
unfolding value
returns-clause-same c = refl
