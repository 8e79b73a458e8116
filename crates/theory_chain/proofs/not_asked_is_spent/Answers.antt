use Rattle.theory_chain.proofs.Refusing as proof
use Rattle.theory_chain.proofs.not_asked_is_spent.Goals as goal

pub returns : goal.returns
returns c = proof.not_asked_is_spent
