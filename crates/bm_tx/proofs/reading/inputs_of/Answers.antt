use Rattle.std.proofs.Common.{◌≡◌, ◌++◌, ◌∷◌, []}
use Rattle.std.proofs.lemmas.Result.{err_from_is_err_and}
use Rattle.spec_bitcoin.specs.Reading.{many, input_at}
use Rattle.bm_tx.proofs.Loop.{goes_on, ends, is_done}
use Rattle.bm_tx.proofs.reading.inputs_of.Goals as goal

pub returns-in_err-input : goal.returns-in_err-input
returns-in_err-input c =
    let p = err_from_is_err_and c.from_residual.result c.from_residual.ensures.1 in
    rw (p.1, p.2) (ends input_at c.in_err-input.field-0.0 c.loop.inputs c.args.count c.loop.counter c.loop.rest.now
    (many input_at c.args.count c.args.bytes.now) c.loop-test.true c.in_err-input.ensures c.loop.invariant)

pub loop-preserved : goal.loop-preserved
loop-preserved c =
    rw c.in_ok-push.ensures.ok (goes_on input_at c.loop.inputs c.args.count c.loop.counter c.loop.rest.now c.in_ok-input.input
    c.in_ok-input.after.now (many input_at c.args.count c.args.bytes.now) c.loop-test.true c.in_ok-input.ensures c.loop.invariant)

pub returns : goal.returns
returns c =
    is_done input_at c.loop.inputs c.args.count c.loop.counter c.loop.rest.now (many input_at c.args.count c.args.bytes.now) c.loop-test.false c.loop.invariant
