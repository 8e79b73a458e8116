use Rattle.theory_next.proofs.Once.{candidates_stand_once}
use Rattle.theory_next.proofs.candidates_stand_once.Goals as goal

pub returns : goal.returns
returns c = candidates_stand_once
