use Rattle.theory_chain.proofs.ReadOver as proof
use Rattle.theory_chain.proofs.others_are_read_over.Goals as goal

pub returns : goal.returns
returns c = proof.others_are_read_over
