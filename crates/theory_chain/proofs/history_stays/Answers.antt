use Rattle.theory_chain.proofs.Courses as proof
use Rattle.theory_chain.proofs.history_stays.Goals as goal

pub returns : goal.returns
returns c = proof.history_stays
