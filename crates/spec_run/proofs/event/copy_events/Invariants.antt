use Rattle.std.proofs.Common.{◌≡◌, take}
use Rattle.spec_run.proofs.event.copy_events.Given as goal

-- the copies so far
abbrev pub invariant-loop-event : goal.invariant-loop-event
invariant-loop-event l = l.list ≡ take l.event-index l.events
