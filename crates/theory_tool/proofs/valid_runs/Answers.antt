use Rattle.theory_tool.proofs.Headlines.{valid_runs_are}
use Rattle.theory_tool.proofs.valid_runs.Goals as goal

pub returns : goal.returns
returns c = valid_runs_are
