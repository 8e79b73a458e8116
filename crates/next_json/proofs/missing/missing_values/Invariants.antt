use Rattle.std.proofs.Common.{◌≡◌, map, take}
use Rattle.serde_json.specs.View.{view}
use Rattle.spec_next.specs.JsonForm.{missing_value}
use Rattle.next_json.proofs.missing.missing_values.Given as goal

abbrev pub invariant-loop-requirement : goal.invariant-loop-requirement
invariant-loop-requirement l = map view l.values.items ≡ map missing_value (take l.requirement-index l.requirements)
