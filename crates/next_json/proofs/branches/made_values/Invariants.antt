use Rattle.std.proofs.Common.{◌≡◌, map, take}
use Rattle.serde_json.specs.View.{view}
use Rattle.spec_next.specs.JsonForm.{made_value}
use Rattle.next_json.proofs.branches.made_values.Given as goal

abbrev pub invariant-loop-output : goal.invariant-loop-output
invariant-loop-output l = map view l.values.items ≡ map made_value (take l.output-index l.made)
