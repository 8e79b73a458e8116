use Rattle.theory_deal.proofs.WholeDeals as proof
use Rattle.theory_deal.proofs.deals_give_all.Goals as goal

pub returns : goal.returns
returns c = proof.deals_give_all
