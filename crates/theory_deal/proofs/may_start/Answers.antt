use Rattle.theory_deal.proofs.Listed as proof
use Rattle.theory_deal.proofs.may_start.Goals as goal

pub returns : goal.returns
returns c = proof.may_start_exactly
