use Rattle.std.proofs.lemmas.List.{drop_all}
use Rattle.std.proofs.Common.{arith, ap, ◌∙◌}
use Rattle.spec_tool.specs.PsbtBytes.{signatures_joined}
use Rattle.bm_psbt.specs.Merged.{without_first}
use Rattle.bm_psbt.proofs.Merging.{cut_at, joined_more, joined_done}
use Rattle.bm_psbt.proofs.signatures.joined.Goals as goal

pub loop-key-preserved : goal.loop-key-preserved
loop-key-preserved c =
    let m = joined_more c.args.here.now c.loop-key.others.now c.behind_key-others.result.now c.loop-key.all c.copy_before.new.out
    c.copy_signature.new.out c.loop-key.key-index c.loop-key-item.result (signatures_joined c.args.here.now c.args.there.now)
    (cut_at c.args.here.now c.loop-key.key-index c.loop-key-item.result c.loop-key-test.true c.loop-key-item.is) c.loop-key.invariant.here
    c.loop-key.invariant.there
    (c.behind_key-others.ensures ∙ ap (without_first _) c.from_key.ensures)
    c.in_ok-copy_before.ensures c.in_ok-copy_signature.ensures c.loop-key.invariant.whole in
    record { here = m.0; there = m.1; whole = m.2 }

pub returns : goal.returns
returns c =
    joined_done c.args.here.now c.loop-key.others.now c.loop-key.all c.copy_all.new.out c.loop-key.key-index
    (signatures_joined c.args.here.now c.args.there.now)
    (drop_all c.loop-key.key-index c.args.here.now c.loop-key-test.false) c.loop-key.invariant.there c.in_ok-copy_all.ensures c.loop-key.invariant.whole
