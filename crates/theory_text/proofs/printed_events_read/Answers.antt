use Rattle.theory_text.proofs.Lines.EventLines.{printed_event}
use Rattle.theory_text.proofs.printed_events_read.Goals as goal

pub returns : goal.returns
returns c = printed_event
