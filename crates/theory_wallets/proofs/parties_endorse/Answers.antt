use Rattle.theory_wallets.proofs.Ends as proof
use Rattle.theory_wallets.proofs.parties_endorse.Goals as goal

pub returns : goal.returns
returns c = proof.parties_endorse
