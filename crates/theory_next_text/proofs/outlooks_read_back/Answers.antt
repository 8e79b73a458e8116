use Rattle.theory_next_text.proofs.Outlooks.{outlooks_back}
use Rattle.theory_next_text.proofs.outlooks_read_back.Goals as goal

pub returns : goal.returns
returns c = outlooks_back
