use Rattle.theory_tool.proofs.Headlines.{headline}
use Rattle.theory_tool.proofs.headline_theorem.Goals as goal

pub returns : goal.returns
returns c = headline
