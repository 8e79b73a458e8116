use Rattle.theory_audit.proofs.Nothing.{nothing_lacks}
use Rattle.theory_audit.proofs.nothing_lacks.Goals as goal

pub returns : goal.returns
returns c = nothing_lacks
