use Rattle.theory_deal.proofs.DealFiles as proof
use Rattle.theory_deal.proofs.deal_files_are_read.Goals as goal

pub returns : goal.returns
returns c = proof.deal_files_are_read
