use Rattle.std.proofs.Common.{◌≡◌, map, take}
use Rattle.spec_bitcoin.specs.Verdict.{spent_number}
use Rattle.bm_ledger.proofs.outputs.spent_numbers.Given as goal

abbrev pub invariant-loop-input : goal.invariant-loop-input
invariant-loop-input l = l.numbers ≡ map (spent_number l.live) (take l.input-index l.inputs)
