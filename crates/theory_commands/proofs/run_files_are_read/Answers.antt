use Rattle.theory_commands.proofs.RunFiles.{run_files_read}
use Rattle.theory_commands.proofs.run_files_are_read.Goals as goal

pub returns : goal.returns
returns c = run_files_read
