use Rattle.theory_next.proofs.Never.{never_is_said}
use Rattle.theory_next.proofs.never_is_said.Goals as goal

pub returns : goal.returns
returns c = never_is_said
