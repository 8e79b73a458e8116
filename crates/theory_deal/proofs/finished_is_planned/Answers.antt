use Rattle.theory_deal.proofs.Planned as proof
use Rattle.theory_deal.proofs.finished_is_planned.Goals as goal

pub returns : goal.returns
returns c = proof.finished_is_planned
