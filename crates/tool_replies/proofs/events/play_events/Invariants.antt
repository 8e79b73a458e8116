use Rattle.std.proofs.Common.{drop}
use Rattle.tool_replies.specs.Going.{Midway}
use Rattle.tool_replies.proofs.events.play_events.Given as goal

abbrev pub invariant-loop-number : goal.invariant-loop-number
invariant-loop-number g l = Midway g.H.Hash32.digest_of l.initial.world l.world l.events (drop l.number l.events)
