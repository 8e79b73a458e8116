use Rattle.std.proofs.Common.{◌≡◌, ◌++◌, take}
use Rattle.spec_bitcoin.specs.Live.{born}
use Rattle.bm_ledger.proofs.outputs.add_outputs.Given as goal

abbrev pub invariant-loop-k : goal.invariant-loop-k
invariant-loop-k l = l.live ≡ l.fn.live ++ born l.births l.txid 0 (take l.k l.outputs)
