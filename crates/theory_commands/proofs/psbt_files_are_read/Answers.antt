use Rattle.theory_commands.proofs.PsbtFiles.{psbt_files_read}
use Rattle.theory_commands.proofs.psbt_files_are_read.Goals as goal

pub returns : goal.returns
returns c = psbt_files_read
