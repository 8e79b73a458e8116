use Rattle.theory_chain.proofs.Refusing as proof
use Rattle.theory_chain.proofs.cannot_is_refused.Goals as goal

pub returns : goal.returns
returns c = proof.cannot_is_refused c.can_exactly.ensures
