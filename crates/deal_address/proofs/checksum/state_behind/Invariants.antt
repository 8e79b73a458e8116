use Rattle.std.proofs.Common.{◌≡◌, drop}
use Rattle.spec_address.specs.Checksum.{state_from}
use Rattle.deal_address.proofs.checksum.state_behind.Given as goal

abbrev pub invariant-loop-value : goal.invariant-loop-value
invariant-loop-value l = state_from l.next (drop l.value-index l.values) ≡ state_from l.state l.values
