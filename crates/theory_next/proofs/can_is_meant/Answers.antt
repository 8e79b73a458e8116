use Rattle.theory_next.proofs.Said.{can_is_meant}
use Rattle.theory_next.proofs.can_is_meant.Goals as goal

pub returns : goal.returns
returns c = can_is_meant
