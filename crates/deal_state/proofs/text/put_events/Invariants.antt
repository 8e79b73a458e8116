use Rattle.std.proofs.Common.{◌≡◌, ◌++◌, map, drop}
use Rattle.std.specs.List.{flat_map}
use Rattle.spec_chain.specs.StateText.{happened_text}
use Rattle.deal_follow.specs.Seen.{happened_in}
use Rattle.deal_state.proofs.text.put_events.Given as goal

abbrev pub invariant-loop-event : goal.invariant-loop-event
invariant-loop-event l =
    l.out.items ++ flat_map happened_text (map happened_in (drop l.event-index l.events))
    ≡ l.initial.out.items ++ flat_map happened_text (map happened_in l.events)
