use Rattle.theory_curve.proofs.Inverts.{field_inverts}
use Rattle.theory_curve.proofs.field_has_inverses.Goals as goal

pub returns : goal.returns
returns c = field_inverts
