use Rattle.theory_next.proofs.Others.{others_come}
use Rattle.theory_next.proofs.others_come.Goals as goal

pub returns : goal.returns
returns c = others_come
