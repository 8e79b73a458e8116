use Rattle.std.proofs.Common.{◌≡◌, ◌+◌, ◌++◌, map, drop}
use Rattle.serde_json.specs.View.{view}
use Rattle.deal_show.specs.Showing.{inputs_by}
use Rattle.deal_show.proofs.inputs.input_values.Given as goal

-- what is there, and what is left, are the whole
abbrev pub invariant-loop-input : goal.invariant-loop-input
invariant-loop-input l = record {
  number : l.number ≡ 0 + l.input-index;
  told : map view l.values.items ++ inputs_by l.which l.deposits l.number (drop l.input-index l.inputs) ≡ inputs_by l.which l.deposits 0 l.inputs;
}
