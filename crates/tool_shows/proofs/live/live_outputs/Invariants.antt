use Rattle.std.proofs.Common.{◌≡◌, ◌-◌, ◌++◌, drop, map, length}
use Rattle.tool_shows.specs.Live.{number_and_value}
use Rattle.tool_shows.proofs.live.live_outputs.Given as goal

abbrev pub invariant-loop-number : goal.invariant-loop-number
invariant-loop-number l = l.live.items ++ map number_and_value (drop (length l.live.items) l.ledger.live) ≡ map number_and_value l.ledger.live

abbrev pub decreases-loop-number : goal.decreases-loop-number
decreases-loop-number l = length l.ledger.live - length l.live.items
