use Rattle.theory_run.proofs.OwnEvents.{only_own_events}
use Rattle.theory_run.proofs.only_own_events.Goals as goal

pub returns : goal.returns
returns c = only_own_events
