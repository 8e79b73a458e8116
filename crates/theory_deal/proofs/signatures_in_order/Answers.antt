use Rattle.theory_deal.proofs.SigningOrder as proof
use Rattle.theory_deal.proofs.signatures_in_order.Goals as goal

pub returns : goal.returns
returns c = proof.signatures_in_order c.transactions_of_deals.ensures
