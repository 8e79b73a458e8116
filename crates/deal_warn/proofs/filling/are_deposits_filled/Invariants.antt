use Rattle.std.proofs.Common.{◌≡◌, drop}
use Rattle.deal_warn.specs.Sized.{are_deposits_filled}
use Rattle.deal_warn.proofs.filling.are_deposits_filled.Given as goal

abbrev pub invariant-loop-input : goal.invariant-loop-input
invariant-loop-input l = are_deposits_filled (drop l.input-index l.inputs) ≡ are_deposits_filled l.inputs
