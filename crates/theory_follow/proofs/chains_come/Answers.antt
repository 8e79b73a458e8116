use Rattle.theory_follow.proofs.ChainLines as proof
use Rattle.theory_follow.proofs.chains_come.Goals as goal

pub returns : goal.returns
returns c = proof.chains_come c.bad_exactly.ensures
