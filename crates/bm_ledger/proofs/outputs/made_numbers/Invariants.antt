use Rattle.std.proofs.Common.{◌≡◌, ◌+◌, ◌++◌, drop}
use Rattle.spec_bitcoin.specs.Verdict.{numbers_from}
use Rattle.bm_ledger.proofs.outputs.made_numbers.Given as goal

abbrev pub invariant-loop-output : goal.invariant-loop-output
invariant-loop-output l = record {
  next : l.next ≡ l.births + l._output-index;
  numbers : l.numbers ++ numbers_from l.next (drop l._output-index l.outputs) ≡ numbers_from l.births l.outputs;
}
