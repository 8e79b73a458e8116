use Rattle.theory_next.proofs.MetAlone.{met_alone}
use Rattle.theory_next.proofs.met_alone.Goals as goal

pub returns : goal.returns
returns c = met_alone
