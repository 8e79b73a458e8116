use Rattle.std.proofs.Common.{◌∷◌, ◌++◌, []}
use Rattle.std.proofs.lemmas.Result.{err_from_is_err_and}
use Rattle.bm_psbt.specs.Ordered.{inputs_at}
use Rattle.bm_psbt.proofs.Several.{inputs_more, inputs_stop, inputs_done}
use Rattle.bm_psbt.proofs.reading.inputs_of.Goals as goal

pub returns-in_err-input : goal.returns-in_err-input
returns-in_err-input c =
    let p = err_from_is_err_and c.from_residual.result c.from_residual.ensures.1 in
    rw (p.1, p.2) (inputs_stop c.in_err-input.field-0.0 c.loop.inputs c.args.count c.loop.counter c.loop.rest.now
    (inputs_at c.args.count c.args.bytes.now) c.loop-test.true c.in_err-input.ensures c.loop.invariant)

pub loop-preserved : goal.loop-preserved
loop-preserved c =
    rw c.in_ok-push.ensures.ok (inputs_more c.loop.inputs c.args.count c.loop.counter c.loop.rest.now c.in_ok-input.after.now
    c.in_ok-input.input (inputs_at c.args.count c.args.bytes.now) c.loop-test.true c.in_ok-input.ensures c.loop.invariant)

pub returns : goal.returns
returns c = inputs_done c.loop.inputs c.args.count c.loop.counter c.loop.rest.now (inputs_at c.args.count c.args.bytes.now) c.loop-test.false c.loop.invariant
