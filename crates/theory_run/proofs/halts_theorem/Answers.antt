use Rattle.theory_run.proofs.Halting.HaltsRightly.{halts}
use Rattle.theory_run.proofs.halts_theorem.Goals as goal

pub returns : goal.returns
returns c = halts
