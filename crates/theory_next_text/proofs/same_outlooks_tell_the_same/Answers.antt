use Rattle.theory_next_text.proofs.Outlooks.{same_outlooks}
use Rattle.theory_next_text.proofs.same_outlooks_tell_the_same.Goals as goal

pub returns : goal.returns
returns c = same_outlooks
