use Rattle.theory_generator.proofs.Readable.{contract_reads}
use Rattle.theory_generator.proofs.generated_contracts_are_read.Goals as goal

pub returns : goal.returns
returns c = contract_reads
