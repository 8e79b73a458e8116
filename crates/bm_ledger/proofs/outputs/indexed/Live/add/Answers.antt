use Rattle.bm_ledger.proofs.Indexing.{added}
use Rattle.bm_ledger.proofs.outputs.indexed.Live.add.Goals as goal

pub invariant_of-self-2 : goal.invariant_of-self-2
invariant_of-self-2 c =
    let order = rw (← c.self.view_is) at c.requires.order in
    let new = rw (← c.self.view_is) at c.requires.new in
    rw (c.push_back_reserved.ensures.items, c.reserve.ensures.items)
    (added _ _ c.self.inside.entries.items c.args.place c.args.number c.args.output c.self.invariant order c.ranges.number.fits new
    c.in_ok-insert.ensures.updates.0)
