use Rattle.theory_chain.proofs.Exactly as proof
use Rattle.theory_chain.proofs.supplied_comes.Goals as goal

pub returns : goal.returns
returns c = proof.supplied_comes
