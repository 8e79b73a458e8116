use Rattle.theory_deal.proofs.FinishedOpens as proof
use Rattle.theory_deal.proofs.finished_opens.Goals as goal

pub returns : goal.returns
returns c = proof.finished_opens
