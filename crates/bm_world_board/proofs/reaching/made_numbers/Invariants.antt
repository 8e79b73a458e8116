use Rattle.std.proofs.Common.{◌≡◌, ◌+◌, ◌++◌, drop}
use Rattle.spec_run.specs.Ledger.{made_with_values}
use Rattle.bm_world_board.proofs.reaching.made_numbers.Given as goal

abbrev pub invariant-loop-output : goal.invariant-loop-output
invariant-loop-output l = record {
  next : l.next ≡ l.fn.births + l.output-index;
  made : l.made ++ made_with_values l.next (drop l.output-index l.outputs) ≡ made_with_values l.fn.births l.outputs;
}
