use Rattle.std.proofs.Common.{◌≡◌, ◌+◌, ◌++◌, drop}
use Rattle.spec_deal.specs.WarnText.{dust_warnings}
use Rattle.deal_warn.proofs.warnings.put_outputs.Given as goal

abbrev pub invariant-loop-output : goal.invariant-loop-output
invariant-loop-output l = record {
  number : l.number ≡ 0 + l.output-index;
  told : l.lines.items ++ dust_warnings l.which l.number (drop l.output-index l.outputs) ≡ l.initial.lines.items ++ dust_warnings l.which 0 l.outputs;
}
