use Rattle.std.proofs.Common.{◌≡◌, ◌++◌, map, drop}
use Rattle.std.specs.Prelude.{filter, flat_map, option_map}
use Rattle.serde_json.specs.View.{view}
use Rattle.spec_next.specs.JsonForm.{event_values}
use Rattle.spec_next.specs.Listed.{is_for_party}
use Rattle.next_json.proofs.shown.event_values.Given as goal

abbrev pub invariant-loop-outlook : goal.invariant-loop-outlook
invariant-loop-outlook l =
    let asked = option_map (λ p. p.now) l.party in
    map view l.values.items ++ flat_map (event_values asked l.config) (filter (is_for_party asked) (drop l.outlook-index l.outlooks))
    ≡ flat_map (event_values asked l.config) (filter (is_for_party asked) l.outlooks)
