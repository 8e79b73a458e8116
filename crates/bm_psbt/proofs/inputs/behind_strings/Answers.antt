use Rattle.spec_bitcoin.specs.Reading.{many, string_at}
use Rattle.bm_psbt.specs.Ordered.{rest_of}
use Rattle.bm_psbt.proofs.Strings.{behind_more, behind_stop, behind_all}
use Rattle.bm_psbt.proofs.inputs.behind_strings.Goals as goal

pub loop-preserved : goal.loop-preserved
loop-preserved c =
    behind_more string_at c.args.count c.loop.counter c.loop.rest.now c.in-Ok.after.now _
    (rest_of (many string_at c.args.count c.args.bytes.now)) c.loop-test.true c.in-Ok.ensures c.loop.invariant

pub returns : goal.returns
returns c =
    behind_all string_at c.args.count c.loop.counter c.loop.rest.now (rest_of (many string_at c.args.count c.args.bytes.now)) c.loop-test.false c.loop.invariant

pub returns-in-Err : goal.returns-in-Err
returns-in-Err c =
    behind_stop string_at c.args.count c.loop.counter _ c.loop.rest.now
    (rest_of (many string_at c.args.count c.args.bytes.now)) c.loop-test.true c.in-Err.ensures c.loop.invariant
