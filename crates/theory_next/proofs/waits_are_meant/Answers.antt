use Rattle.theory_next.proofs.Waits.{waits_are_meant}
use Rattle.theory_next.proofs.waits_are_meant.Goals as goal

pub returns : goal.returns
returns c = waits_are_meant
