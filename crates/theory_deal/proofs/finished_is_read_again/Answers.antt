use Rattle.theory_deal.proofs.ReadAgain as proof
use Rattle.theory_deal.proofs.finished_is_read_again.Goals as goal

pub returns : goal.returns
returns c = proof.finished_is_read_again
