use Rattle.theory_tool.proofs.Strategies.{strategies_read}
use Rattle.theory_tool.proofs.strategies_are_read.Goals as goal

pub returns : goal.returns
returns c = strategies_read
