use Rattle.theory_deal.proofs.Listed as proof
use Rattle.theory_deal.proofs.missing_and_held.Goals as goal

pub returns : goal.returns
returns c = proof.missing_and_held
