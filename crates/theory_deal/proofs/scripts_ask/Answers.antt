use Rattle.theory_deal.proofs.Scripts as proof
use Rattle.theory_deal.proofs.scripts_ask.Goals as goal

pub returns : goal.returns
returns c = proof.scripts_ask
