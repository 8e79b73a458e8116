use Rattle.theory_wallets.proofs.Ends as proof
use Rattle.theory_wallets.proofs.ready_and_missing.Goals as goal

pub returns : goal.returns
returns c = proof.ready_and_missing
