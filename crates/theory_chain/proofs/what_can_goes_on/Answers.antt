use Rattle.theory_chain.proofs.GoingOn as proof
use Rattle.theory_chain.proofs.what_can_goes_on.Goals as goal

pub returns : goal.returns
returns c = proof.what_can_goes_on c.can_exactly.ensures c.can_opens.ensures c.finished_is_planned.ensures
