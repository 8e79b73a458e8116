use Rattle.theory_next.proofs.FirstRun.{first_run_is_a_run}
use Rattle.theory_next.proofs.first_run_is_a_run.Goals as goal

pub returns : goal.returns
returns c = first_run_is_a_run
