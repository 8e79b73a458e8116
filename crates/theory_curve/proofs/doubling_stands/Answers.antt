use Rattle.theory_curve.proofs.StandsAll.{doubled_stands}
use Rattle.theory_curve.proofs.doubling_stands.Goals as goal

pub returns : goal.returns
returns c = doubled_stands
