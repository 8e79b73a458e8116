use Rattle.theory_values.proofs.EveryEvent.{every_event}
use Rattle.theory_values.proofs.every_event_is_played.Goals as goal

pub returns : goal.returns
returns c = every_event
