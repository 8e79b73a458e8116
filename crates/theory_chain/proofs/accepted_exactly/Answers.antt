use Rattle.theory_chain.proofs.Refusing as proof
use Rattle.theory_chain.proofs.accepted_exactly.Goals as goal

pub returns : goal.returns
returns c = proof.accepted_exactly c.can_is_accepted.ensures c.cannot_is_refused.ensures
