use Rattle.theory_deal.proofs.FinishedOpens as proof
use Rattle.theory_deal.proofs.inputs_opened.Goals as goal

pub returns : goal.returns
returns c = proof.inputs_opened
