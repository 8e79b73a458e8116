use Rattle.theory_commands.proofs.ContractFiles.{contracts_read}
use Rattle.theory_commands.proofs.contract_files_are_read.Goals as goal

pub returns : goal.returns
returns c = contracts_read
