use Rattle.theory_tool.proofs.Statuses.{causes}
use Rattle.theory_tool.proofs.statuses_have_causes.Goals as goal

pub returns : goal.returns
returns c = causes
