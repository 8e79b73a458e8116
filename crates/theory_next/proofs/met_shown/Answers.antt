use Rattle.theory_next.proofs.MetShown.{met_shown}
use Rattle.theory_next.proofs.met_shown.Goals as goal

pub returns : goal.returns
returns c = met_shown
