use Rattle.theory_next_text.proofs.Outlooks.{next_back}
use Rattle.theory_next_text.proofs.next_is_read_back.Goals as goal

pub returns : goal.returns
returns c = next_back
