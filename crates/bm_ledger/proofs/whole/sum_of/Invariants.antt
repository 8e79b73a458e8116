use Rattle.std.proofs.Common.{◌≡◌, ◌≤◌, take}
use Rattle.spec_data.specs.Ranges.{max_money}
use Rattle.spec_bitcoin.specs.Verdict.{total_of}
use Rattle.bm_ledger.proofs.whole.sum_of.Given as goal

abbrev pub invariant-loop-output : goal.invariant-loop-output
invariant-loop-output l = (l.total ≡ total_of (take l.output-index l.outputs)) × (l.total ≤ max_money)
