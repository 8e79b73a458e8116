use Rattle.theory_next.proofs.Listed.{nothing_is_left_out}
use Rattle.theory_next.proofs.nothing_is_left_out.Goals as goal

pub returns : goal.returns
returns c = nothing_is_left_out
