use Rattle.theory_next.proofs.FirstEvents.{first_events_go_through}
use Rattle.theory_next.proofs.first_events_go_through.Goals as goal

pub returns : goal.returns
returns c = first_events_go_through
