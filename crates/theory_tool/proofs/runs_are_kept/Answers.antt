use Rattle.theory_tool.proofs.Kept.{kept}
use Rattle.theory_tool.proofs.runs_are_kept.Goals as goal

pub returns : goal.returns
returns c = kept
