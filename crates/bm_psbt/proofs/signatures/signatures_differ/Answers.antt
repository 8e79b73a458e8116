use Rattle.spec_tool.specs.PsbtBytes as spec
use Rattle.bm_psbt.proofs.Merging.{cut_at, differ_more, differ_found}
use Rattle.bm_psbt.proofs.signatures.signatures_differ.Goals as goal

pub returns-then-is_other : goal.returns-then-is_other
returns-then-is_other c =
    differ_found c.args.here.now c.loop-key.others.now c.from_key-others.result.now c.loop-key.key-index c.loop-key-item.result
    c.is_other.result (spec.signatures_differ c.args.here.now c.args.there.now)
    (cut_at c.args.here.now c.loop-key.key-index c.loop-key-item.result c.loop-key-test.true c.loop-key-item.is) c.loop-key.invariant.here
    c.loop-key.invariant.there c.from_key-others.ensures c.is_other.ensures c.if-is_other.true c.loop-key.invariant.same

pub loop-key-preserved : goal.loop-key-preserved
loop-key-preserved c =
    let m = differ_more c.args.here.now c.loop-key.others.now c.from_key-others.result.now
    c.loop-key.key-index c.loop-key-item.result c.is_other.result (spec.signatures_differ c.args.here.now c.args.there.now)
    (cut_at c.args.here.now c.loop-key.key-index c.loop-key-item.result c.loop-key-test.true c.loop-key-item.is) c.loop-key.invariant.here
    c.loop-key.invariant.there c.from_key-others.ensures c.is_other.ensures c.if-is_other.false c.loop-key.invariant.same in
    record { here = m.0; there = m.1; same = m.2 }
