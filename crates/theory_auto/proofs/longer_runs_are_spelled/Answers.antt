use Rattle.theory_auto.proofs.Spelled.{longer_spelled}
use Rattle.theory_auto.proofs.longer_runs_are_spelled.Goals as goal

pub returns : goal.returns
returns c = longer_spelled
