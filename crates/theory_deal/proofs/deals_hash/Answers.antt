use Rattle.theory_deal.proofs.Transactions as proof
use Rattle.theory_deal.proofs.deals_hash.Goals as goal

pub returns : goal.returns
returns c = proof.deals_hash
