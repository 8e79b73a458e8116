use Rattle.std.proofs.Common.{drop}
use Rattle.next_outlook.specs.Seen.{Midway}
use Rattle.next_outlook.proofs.looking.look_all.Given as goal

abbrev pub invariant-loop-event : goal.invariant-loop-event
invariant-loop-event g l =
    Midway g.H.Hash32.digest_of l.initial.world l.world l.config (drop l.event-index l.events) l.events l.prospects
