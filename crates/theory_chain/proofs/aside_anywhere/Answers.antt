use Rattle.theory_chain.proofs.Anywhere as proof
use Rattle.theory_chain.proofs.aside_anywhere.Goals as goal

pub returns : goal.returns
returns c = proof.aside_anywhere
