use Rattle.std.proofs.lemmas.Result.{err_from_is_err_and}
use Rattle.bm_reader.specs.Entries.{room}
use Rattle.bm_reader.proofs.EntryLemmas.{entry_fails, end_fails, entries_end, entries_go}
use Rattle.bm_reader.proofs.precondition.entries_of.Goals as goal

pub returns-in_err-left : goal.returns-in_err-left
returns-in_err-left c =
    let p = err_from_is_err_and c.from_residual.result c.from_residual.ensures.1 in
    rw (p.1, p.2) (entry_fails c.in_err-left.field-0.0 c.loop-entries.entries.items (room c.loop-entries.space) c.loop-entries.rest.now _
    c.in_err-left.ensures.gives c.loop-entries.invariant)

pub returns-in_err-more : goal.returns-in_err-more
returns-in_err-more c =
    let p = err_from_is_err_and c.from_residual-in_err-more.result c.from_residual-in_err-more.ensures.1 in
    rw (p.1, p.2) (end_fails c.in_err-more.field-0.0 c.loop-entries.entries.items c.add_entry.new.entries.items (room c.loop-entries.space)
    (room c.in_ok-left.left) c.loop-entries.rest.now c.in_ok-left.after.now _ c.in_ok-left.ensures.less c.in_ok-left.ensures.gives
    c.in_err-more.ensures c.loop-entries.invariant)

pub returns-then-not-more : goal.returns-then-not-more
returns-then-not-more c =
    entries_end c.loop-entries.entries.items c.add_entry.new.entries.items (room c.loop-entries.space) (room c.in_ok-left.left)
    c.loop-entries.rest.now c.in_ok-left.after.now c.in_ok-more.after.now _ c.in_ok-left.ensures.less c.in_ok-left.ensures.gives
    (rw c.if-not-more.true at c.in_ok-more.ensures) c.loop-entries.invariant

pub loop-entries-preserved : goal.loop-entries-preserved
loop-entries-preserved c =
    entries_go c.loop-entries.entries.items c.add_entry.new.entries.items (room c.loop-entries.space) (room c.in_ok-left.left)
    c.loop-entries.rest.now c.in_ok-left.after.now c.in_ok-more.after.now _ c.in_ok-left.ensures.less c.in_ok-left.ensures.gives
    (rw c.if-not-more.false at c.in_ok-more.ensures) c.loop-entries.invariant
