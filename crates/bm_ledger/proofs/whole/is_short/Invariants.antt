use Rattle.std.proofs.Common.{◌≡◌, ◌-◌, take}
use Rattle.spec_bitcoin.specs.Verdict.{spent_total}
use Rattle.bm_ledger.proofs.whole.is_short.Given as goal

abbrev pub invariant-loop-input : goal.invariant-loop-input
invariant-loop-input l = l.need ≡ l.total - spent_total l.live (take l.input-index l.inputs)
