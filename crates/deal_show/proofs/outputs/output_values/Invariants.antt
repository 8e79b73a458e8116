use Rattle.std.proofs.Common.{◌≡◌, ◌++◌, map, drop}
use Rattle.serde_json.specs.View.{view}
use Rattle.spec_show.specs.ShownDeal.{outputs_data}
use Rattle.deal_show.specs.Making.{made_in}
use Rattle.deal_show.proofs.outputs.output_values.Given as goal

-- what is there, and what is left, are the whole
abbrev pub invariant-loop-output : goal.invariant-loop-output
invariant-loop-output l =
    map view l.values.items ++ outputs_data l.network (drop l.output-index l.outputs) (map made_in l.left)
    ≡ outputs_data l.network l.outputs (map made_in l.made)
