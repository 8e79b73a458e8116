use Rattle.theory_next.proofs.Ready.{ready_comes}
use Rattle.theory_next.proofs.ready_comes.Goals as goal

pub returns : goal.returns
returns c = ready_comes
