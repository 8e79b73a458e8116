use Rattle.theory_chain.proofs.Nevers as proof
use Rattle.theory_chain.proofs.never_comes.Goals as goal

pub returns : goal.returns
returns c = proof.never_comes
