use Rattle.theory_script.proofs.Scripts.Deposits.{deposit_meaning}
use Rattle.theory_script.proofs.deposit_meaning.Goals as goal

pub returns : goal.returns
returns c = deposit_meaning
