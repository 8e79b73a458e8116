use Rattle.std.proofs.Common.{◌≡◌, ◌+◌, ◌++◌, drop}
use Rattle.deal_plan.specs.Parts.{inputs_text}
use Rattle.deal_plan.proofs.transactions.put_inputs.Given as goal

abbrev pub invariant-loop-input : goal.invariant-loop-input
invariant-loop-input l = record {
  number : l.number ≡ 0 + l.input-index;
  told : l.out.items ++ inputs_text l.which l.number (drop l.input-index l.inputs) ≡ l.initial.out.items ++ inputs_text l.which 0 l.inputs;
}
