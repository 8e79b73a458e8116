use Rattle.theory_chain.proofs.Courses as proof
use Rattle.theory_chain.proofs.refused_exactly.Goals as goal

pub returns : goal.returns
returns c = proof.refused_exactly
