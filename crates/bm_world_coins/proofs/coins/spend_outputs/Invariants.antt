use Rattle.std.proofs.Common.{◌≡◌, take}
use Rattle.spec_run.specs.Ledger.{spend_from}
use Rattle.bm_world_coins.proofs.coins.spend_outputs.Given as goal

abbrev pub invariant-loop-number : goal.invariant-loop-number
invariant-loop-number l = l.outputs.items ≡ spend_from 0 (take l.number-index l.spent) l.initial.outputs.items
