use Rattle.std.proofs.lemmas.Result.{err_from_is_err_and}
use Rattle.bm_reader.specs.Gives.{ends_of}
use Rattle.bm_reader.proofs.NameLists.{names_stop, names_end, names_more, shorter}
use Rattle.bm_reader.proofs.names.names_of.Goals as goal

pub returns-in_err-name : goal.returns-in_err-name
returns-in_err-name c =
    let p = err_from_is_err_and c.from_residual.result c.from_residual.ensures.1 in
    rw (p.1, p.2) (names_stop c.in_err-name.field-0.0 (ends_of c.args.put) c.loop-names.names.items c.loop-names.rest.now _
    c.in_err-name.ensures c.loop-names.invariant)

pub returns-in-Some : goal.returns-in-Some
returns-in-Some c =
    rw c.in_ok-push.ensures.items
    (names_end (ends_of c.args.put) c.loop-names.names.items c.loop-names.rest.now c.in_ok-name.name.now c.in-Some.end c.in_ok-name.after.now _ (rw c.in-Some.is at c.in_ok-name.ensures) c.loop-names.invariant)

pub loop-names-smaller : goal.loop-names-smaller
loop-names-smaller c =
    shorter (ends_of c.args.put) c.loop-names.rest.now ((c.in_ok-name.name.now, c.in_ok-name.end), c.in_ok-name.after.now) c.in_ok-name.ensures

pub loop-names-preserved : goal.loop-names-preserved
loop-names-preserved c =
    rw c.in_ok-push.ensures.items
    (names_more (ends_of c.args.put) c.loop-names.names.items c.loop-names.rest.now c.in_ok-name.name.now c.in_ok-name.after.now _
    (rw c.in_default.is at c.in_ok-name.ensures) c.loop-names.invariant)
