use Rattle.theory_chain.proofs.Courses as proof
use Rattle.theory_chain.proofs.followed_exactly.Goals as goal

pub returns : goal.returns
returns c = proof.followed_exactly
