use Rattle.theory_generator.proofs.ContractText.{contract_taken}
use Rattle.theory_generator.proofs.generated_contracts_are_taken.Goals as goal

pub returns : goal.returns
returns c = contract_taken
