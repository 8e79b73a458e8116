use Rattle.std.proofs.Common.{◌≡◌, ◌++◌, map, take}
use Rattle.serde_json.specs.View.{view}
use Rattle.spec_next.specs.JsonForm.{event_value}
use Rattle.next_json.proofs.events.add_events.Given as goal

abbrev pub invariant-loop-prospect : goal.invariant-loop-prospect
invariant-loop-prospect l =
    map view l.values.items ≡ map view l.initial.values.items ++ map (event_value l.config l.contract) (take l.prospect-index l.prospects)
