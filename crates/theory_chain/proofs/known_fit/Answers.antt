use Rattle.theory_chain.proofs.Stays as proof
use Rattle.theory_chain.proofs.known_fit.Goals as goal

pub returns : goal.returns
returns c = proof.known_fit
