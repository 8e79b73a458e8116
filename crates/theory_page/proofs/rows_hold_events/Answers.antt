use Rattle.theory_page.proofs.Held as shown
use Rattle.theory_page.proofs.rows_hold_events.Goals as goal

pub returns : goal.returns
returns c = shown.rows_hold_events
