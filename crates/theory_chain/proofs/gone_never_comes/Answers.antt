use Rattle.theory_chain.proofs.Stays as proof
use Rattle.theory_chain.proofs.gone_never_comes.Goals as goal

pub returns : goal.returns
returns c = proof.gone_never_comes
