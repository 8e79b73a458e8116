use Rattle.std.proofs.Common.{ap, ◌∙◌, arith, drop, ◌+◌, ◌/◌}
use Rattle.std.specs.Prelude.{bit_xor}
use Rattle.spec_address.specs.Checksum.{generators, folded}
use Rattle.deal_address.proofs.Checksums.{folded_more}
use Rattle.deal_address.proofs.checksum.folded.Goals as goal

pub loop-generator-preserved : goal.loop-generator-preserved
loop-generator-preserved c =
    ap (λ g. folded (c.loop-generator.rest / 2) (drop (c.loop-generator.generator-index + 1) generators) (bit_xor c.loop-generator.next g))
    c.chosen-next.ensures
    ∙ folded_more generators c.loop-generator.generator-index c.loop-generator.rest c.loop-generator.next (omega arith)
    ∙ c.loop-generator.invariant
