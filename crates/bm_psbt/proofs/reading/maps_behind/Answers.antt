use Rattle.std.proofs.lemmas.Result.{err_from_is_err_and}
use Rattle.bm_psbt.specs.Gathered.{pairs}
use Rattle.bm_psbt.specs.Ordered.{behind_maps}
use Rattle.bm_psbt.proofs.Several.{behind_more, behind_stop, behind_done}
use Rattle.bm_psbt.proofs.reading.maps_behind.Goals as goal

pub returns-in_err-after : goal.returns-in_err-after
returns-in_err-after c =
    let p = err_from_is_err_and c.from_residual.result c.from_residual.ensures.1 in
    rw (p.1, p.2) (behind_stop c.in_err-after.field-0.0 c.args.count c.loop.counter c.loop.rest.now
    (behind_maps c.args.count c.args.bytes.now) c.loop-test.true c.in_err-after.ensures c.loop.invariant)

pub loop-preserved : goal.loop-preserved
loop-preserved c =
    behind_more c.args.count c.loop.counter c.loop.rest.now c.in_ok-after.after.now _ (behind_maps c.args.count c.args.bytes.now)
    c.loop-test.true c.in_ok-after.ensures c.loop.invariant

pub returns : goal.returns
returns c = behind_done c.args.count c.loop.counter c.loop.rest.now (behind_maps c.args.count c.args.bytes.now) c.loop-test.false c.loop.invariant
