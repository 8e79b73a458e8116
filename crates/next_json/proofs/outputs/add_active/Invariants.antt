use Rattle.std.proofs.Common.{◌≡◌, ◌++◌, map, take}
use Rattle.serde_json.specs.View.{view}
use Rattle.spec_next.specs.JsonForm.{active_value}
use Rattle.next_json.proofs.outputs.add_active.Given as goal

abbrev pub invariant-loop-one : goal.invariant-loop-one
invariant-loop-one l = map view l.values.items ≡ map view l.initial.values.items ++ map active_value (take l.one-index l.active)
