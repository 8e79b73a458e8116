use Rattle.theory_deal.proofs.Transactions as proof
use Rattle.theory_deal.proofs.transactions_of_deals.Goals as goal

pub returns : goal.returns
returns c = proof.transactions_of_deals c.paths_in_order.ensures
