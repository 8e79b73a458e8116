use Rattle.std.proofs.Common.{◌∷◌, ◌++◌, [], sym}
use Rattle.spec_bitcoin.specs.Reading.{many, string_at}
use Rattle.bm_psbt.proofs.Strings.{items_more, items_stop, items_done}
use Rattle.bm_psbt.proofs.inputs.items_of.Goals as goal

pub returns-in-Err : goal.returns-in-Err
returns-in-Err c =
    sym (items_stop string_at c.loop.items c.args.count c.loop.counter _ c.loop.rest.now
    (many string_at c.args.count c.args.bytes.now) c.loop-test.true c.in-Err.ensures c.loop.invariant)

pub loop-preserved : goal.loop-preserved
loop-preserved c =
    rw (c.in_ok-push-in-Ok.ensures.ok, c.in_ok-from_slice-in-Ok.ensures) (items_more string_at c.loop.items c.args.count c.loop.counter c.loop.rest.now
    c.in-Ok.item.now c.in-Ok.after.now (many string_at c.args.count c.args.bytes.now) c.loop-test.true c.in-Ok.ensures c.loop.invariant)

pub returns : goal.returns
returns c = sym (items_done string_at c.loop.items c.args.count c.loop.counter c.loop.rest.now
    (many string_at c.args.count c.args.bytes.now) c.loop-test.false c.loop.invariant)
