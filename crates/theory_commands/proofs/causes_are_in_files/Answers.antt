use Rattle.theory_commands.proofs.Causes.{causes_in_files}
use Rattle.theory_commands.proofs.causes_are_in_files.Goals as goal

pub returns : goal.returns
returns c = causes_in_files
