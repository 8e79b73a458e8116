use Rattle.std.proofs.Common.{◌≡◌, ◌+◌, ◌++◌, drop}
use Rattle.spec_tool.specs.PsbtText.{inputs_lines}
use Rattle.bm_psbt_text.proofs.lines.put_inputs.Given as goal

abbrev pub invariant-loop-input : goal.invariant-loop-input
invariant-loop-input l = record {
  number : l.number ≡ 0 + l.input-index;
  told : l.out.items ++ inputs_lines l.number (drop l.input-index l.inputs) ≡ l.initial.out.items ++ inputs_lines 0 l.inputs;
}
