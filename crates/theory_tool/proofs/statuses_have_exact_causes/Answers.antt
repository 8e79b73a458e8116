use Rattle.theory_tool.proofs.Outcomes.{exact_causes}
use Rattle.theory_tool.proofs.statuses_have_exact_causes.Goals as goal

pub returns : goal.returns
returns c = exact_causes
