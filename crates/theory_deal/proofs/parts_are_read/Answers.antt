use Rattle.theory_deal.proofs.DealFiles as proof
use Rattle.theory_deal.proofs.parts_are_read.Goals as goal

pub returns : goal.returns
returns c = proof.parts_are_read
