use Rattle.theory_next.proofs.Together.{lines_name_all}
use Rattle.theory_next.proofs.lines_name_all.Goals as goal

pub returns : goal.returns
returns c = lines_name_all
