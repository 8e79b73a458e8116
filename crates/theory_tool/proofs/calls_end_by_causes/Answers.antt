use Rattle.theory_tool.proofs.Ended.{calls_end}
use Rattle.theory_tool.proofs.calls_end_by_causes.Goals as goal

pub returns : goal.returns
returns c = calls_end
