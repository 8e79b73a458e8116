use Rattle.theory_commands.proofs.Strategies.{strategy_files_read}
use Rattle.theory_commands.proofs.strategy_files_are_read.Goals as goal

pub returns : goal.returns
returns c = strategy_files_read
