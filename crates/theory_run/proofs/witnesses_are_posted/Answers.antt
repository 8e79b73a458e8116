use Rattle.theory_run.proofs.Witnesses.{witnesses_are_posted}
use Rattle.theory_run.proofs.witnesses_are_posted.Goals as goal

pub returns : goal.returns
returns c = witnesses_are_posted
