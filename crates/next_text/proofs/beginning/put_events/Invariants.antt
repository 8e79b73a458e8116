use Rattle.std.proofs.Common.{◌≡◌, ◌++◌, take}
use Rattle.std.specs.List.{flat_map}
use Rattle.spec_text.specs.RunText.{newline, event_text}
use Rattle.next_text.proofs.beginning.put_events.Given as goal

abbrev pub invariant-loop-event : goal.invariant-loop-event
invariant-loop-event l =
    l.out.items ≡ l.initial.out.items ++ flat_map (λ e. event_text e ++ newline) (take l.event-index l.events)
