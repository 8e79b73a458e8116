use Rattle.theory_run.proofs.Locks.{branches_wait}
use Rattle.theory_run.proofs.branches_wait.Goals as goal

pub returns : goal.returns
returns c = branches_wait
