use Rattle.std.proofs.Common.{◌≡◌, drop}
use Rattle.spec_address.specs.Checksum.{generators, folded}
use Rattle.deal_address.proofs.checksum.folded.Given as goal

abbrev pub invariant-loop-generator : goal.invariant-loop-generator
invariant-loop-generator l = folded l.rest (drop l.generator-index generators) l.next ≡ folded l.bits generators l.state
