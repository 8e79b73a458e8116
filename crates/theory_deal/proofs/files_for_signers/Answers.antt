use Rattle.theory_deal.proofs.ForSigners as proof
use Rattle.theory_deal.proofs.files_for_signers.Goals as goal

pub returns : goal.returns
returns c = proof.files_for_signers c.transactions_of_deals.ensures
