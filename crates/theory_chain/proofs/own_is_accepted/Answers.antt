use Rattle.theory_chain.proofs.OwnAccepted as proof
use Rattle.theory_chain.proofs.own_is_accepted.Goals as goal

pub returns : goal.returns
returns c = proof.own_is_accepted
