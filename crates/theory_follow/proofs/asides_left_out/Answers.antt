use Rattle.theory_follow.proofs.LeftOut as proof
use Rattle.theory_follow.proofs.asides_left_out.Goals as goal

pub returns : goal.returns
returns c = proof.asides_left_out
