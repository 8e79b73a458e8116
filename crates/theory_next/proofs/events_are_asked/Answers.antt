use Rattle.theory_next.proofs.Asked.{events_asked}
use Rattle.theory_next.proofs.events_are_asked.Goals as goal

pub returns : goal.returns
returns c = events_asked
