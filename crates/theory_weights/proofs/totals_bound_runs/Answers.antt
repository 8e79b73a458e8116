use Rattle.theory_weights.proofs.WholeRun.{totals_bound_runs}
use Rattle.theory_weights.proofs.totals_bound_runs.Goals as goal

pub returns : goal.returns
returns c = totals_bound_runs
