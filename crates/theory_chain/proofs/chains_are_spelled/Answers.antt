use Rattle.theory_chain.proofs.FileReads as proof
use Rattle.theory_chain.proofs.chains_are_spelled.Goals as goal

pub returns : goal.returns
returns c = proof.chains_are_spelled
