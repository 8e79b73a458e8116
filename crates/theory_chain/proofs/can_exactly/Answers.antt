use Rattle.theory_chain.proofs.Exactly as proof
use Rattle.theory_chain.proofs.can_exactly.Goals as goal

pub returns : goal.returns
returns c = proof.can_exactly c.finishes_exactly.ensures
