use Rattle.std.proofs.Common.{length}
use Rattle.std.proofs.lemmas.List.{nil_from_length}
use Rattle.std.proofs.lemmas.Result.{err_from_is_err_and}
use Rattle.bm_psbt.specs.Gathered.{pairs, ordered_at}
use Rattle.bm_psbt.proofs.Putting.{gather_more, gather_none, gather_end, gather_stop, gather_past}
use Rattle.bm_psbt.proofs.maps.gather.Goals as goal

pub returns-in_default : goal.returns-in_default
returns-in_default c = gather_none (length c.args.bytes.now) c.loop.counter (pairs c.loop.records.entries) c.loop.rest.now
    (ordered_at c.args.bytes.now) c.loop-test.true (nil_from_length c.loop.rest.now c.in_default.ensures.cases) c.loop.invariant

pub returns-then-first-eq0 : goal.returns-then-first-eq0
returns-then-first-eq0 c =
    gather_end (length c.args.bytes.now) c.loop.counter (pairs c.loop.records.entries) c.loop.rest.now c.in-Some.after.now c.in-Some.first.now
    (ordered_at c.args.bytes.now) c.loop-test.true c.in-Some.ensures.cases.0 c.if-first-eq0.true c.loop.invariant

pub returns-in_err-rest : goal.returns-in_err-rest
returns-in_err-rest c =
    let p = err_from_is_err_and c.from_residual.result c.from_residual.ensures.1 in
    rw (p.1, p.2) (gather_stop c.in_err-rest.field-0.0 (length c.args.bytes.now) c.loop.counter
    (pairs c.loop.records.entries) c.loop.rest.now c.in-Some.after.now c.in-Some.first.now (ordered_at c.args.bytes.now)
    c.loop-test.true c.in-Some.ensures.cases.0 c.if-first-eq0.false c.in_err-rest.ensures c.loop.invariant)

pub loop-preserved : goal.loop-preserved
loop-preserved c =
    gather_more (length c.args.bytes.now) c.loop.counter (pairs c.loop.records.entries) (pairs c.put_record.new.records.entries)
    c.loop.rest.now c.in_ok-rest.rest.now c.in-Some.after.now c.in-Some.first.now (ordered_at c.args.bytes.now)
    c.loop-test.true c.in-Some.ensures.cases.0 c.if-first-eq0.false c.in_ok-rest.ensures c.loop.invariant

pub returns : goal.returns
returns c = gather_past (length c.args.bytes.now) c.loop.counter (pairs c.loop.records.entries) c.loop.rest.now
    (ordered_at c.args.bytes.now) c.loop-test.false c.loop.invariant
