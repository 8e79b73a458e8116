use Rattle.theory_chain.proofs.Revealed as proof
use Rattle.theory_chain.proofs.revealed_once.Goals as goal

pub returns : goal.returns
returns c = proof.revealed_once
