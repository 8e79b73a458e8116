use Rattle.theory_chain.proofs.Reasons as proof
use Rattle.theory_chain.proofs.bad_exactly.Goals as goal

pub returns : goal.returns
returns c = proof.bad_exactly
