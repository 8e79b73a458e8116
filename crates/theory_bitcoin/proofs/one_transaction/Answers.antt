use Rattle.theory_bitcoin.proofs.Top.{one_transaction}
use Rattle.theory_bitcoin.proofs.one_transaction.Goals as goal

pub returns : goal.returns
returns c = one_transaction
