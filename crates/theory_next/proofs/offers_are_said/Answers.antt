use Rattle.theory_next.proofs.Said.{offers_are_said}
use Rattle.theory_next.proofs.offers_are_said.Goals as goal

pub returns : goal.returns
returns c = offers_are_said
