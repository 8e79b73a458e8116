use Rattle.std.proofs.Common.{◌≡◌, ◌++◌, take}
use Rattle.bm_world_coins.specs.Coined.{position_by}
use Rattle.spec_run.specs.Ledger.{made_from}
use Rattle.bm_world_coins.proofs.coins.add_outputs.Given as goal

abbrev pub invariant-loop-k : goal.invariant-loop-k
invariant-loop-k l = l.outputs.items ≡ l.initial.outputs.items ++ made_from (position_by l.positions) l.txid 0 (take l.k l.new)
