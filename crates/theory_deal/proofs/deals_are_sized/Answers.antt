use Rattle.theory_deal.proofs.ReadDeals as proof
use Rattle.theory_deal.proofs.deals_are_sized.Goals as goal

pub returns : goal.returns
returns c = proof.deals_are_sized
