use Rattle.theory_next.proofs.Exact.{exact}
use Rattle.theory_next.proofs.requirements_are_exact.Goals as goal

pub returns : goal.returns
returns c = exact
