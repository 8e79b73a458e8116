use Rattle.spec_tool.specs.PsbtText.{signature_line}
use Rattle.bm_psbt_text.proofs.Loops.{flat_goes}
use Rattle.bm_psbt_text.proofs.lines.put_signatures.Goals as goal

pub loop-key-preserved : goal.loop-key-preserved
loop-key-preserved c =
    flat_goes (signature_line c.args.number) c.args.pairs.now c.loop-key.key-index c.loop-key-item.result c.loop-key.out.items c.put_signature.new.out.items _
    c.loop-key-test.true c.loop-key-item.is c.loop-key.invariant c.in_ok-put_signature.ensures
