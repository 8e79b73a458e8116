use Rattle.theory_wallets.proofs.Outputs as proof
use Rattle.theory_wallets.proofs.deals_are_shown.Goals as goal

pub returns : goal.returns
returns c = proof.deals_are_shown
