use Rattle.theory_next.proofs.FirstLines.{first_lines_are_a_run}
use Rattle.theory_next.proofs.first_lines_are_a_run.Goals as goal

pub returns : goal.returns
returns c = first_lines_are_a_run
