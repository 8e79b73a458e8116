use Rattle.theory_bitcoin.proofs.Top.{fault_is_first}
use Rattle.theory_bitcoin.proofs.fault_is_first.Goals as goal

pub returns : goal.returns
returns c = fault_is_first
