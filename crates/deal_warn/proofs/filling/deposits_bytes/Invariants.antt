use Rattle.std.proofs.Common.{◌≡◌, ◌+◌, drop}
use Rattle.deal_warn.specs.Sized.{deposits_bytes}
use Rattle.deal_warn.proofs.filling.deposits_bytes.Given as goal

abbrev pub invariant-loop-input : goal.invariant-loop-input
invariant-loop-input l = l.sum + deposits_bytes (drop l.input-index l.inputs) ≡ deposits_bytes l.inputs
