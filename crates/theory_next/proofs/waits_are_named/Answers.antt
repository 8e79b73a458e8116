use Rattle.theory_next.proofs.Named.{waits_are_named}
use Rattle.theory_next.proofs.waits_are_named.Goals as goal

pub returns : goal.returns
returns c = waits_are_named
