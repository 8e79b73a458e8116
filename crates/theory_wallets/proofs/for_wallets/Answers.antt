use Rattle.theory_wallets.proofs.Unsigned as proof
use Rattle.theory_wallets.proofs.for_wallets.Goals as goal

pub returns : goal.returns
returns c = proof.for_wallets
