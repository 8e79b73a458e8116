use Rattle.theory_deal.proofs.Causes as proof
use Rattle.theory_deal.proofs.deal_statuses_have_causes.Goals as goal

pub returns : goal.returns
returns c = proof.deal_causes
