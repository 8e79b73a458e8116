use Rattle.theory_deal.proofs.Plain as proof
use Rattle.theory_deal.proofs.plain_deals.Goals as goal

pub returns : goal.returns
returns c = proof.plain_deals
