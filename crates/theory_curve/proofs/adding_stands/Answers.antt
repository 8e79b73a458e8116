use Rattle.theory_curve.proofs.StandsAll.{join_apart}
use Rattle.theory_curve.proofs.adding_stands.Goals as goal

pub returns : goal.returns
returns c = join_apart
