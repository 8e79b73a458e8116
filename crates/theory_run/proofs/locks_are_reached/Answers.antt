use Rattle.theory_run.proofs.Locks.{lock_is_reached}
use Rattle.theory_run.proofs.locks_are_reached.Goals as goal

pub returns : goal.returns
returns c = lock_is_reached
