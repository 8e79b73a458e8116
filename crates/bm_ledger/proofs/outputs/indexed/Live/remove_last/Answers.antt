use Rattle.bm_ledger.proofs.Indexing.{popped}
use Rattle.bm_ledger.proofs.outputs.indexed.Live.remove_last.Goals as goal

pub invariant_of-self : goal.invariant_of-self
invariant_of-self c =
    popped _ _ c.pop_back.new.self.items c.self.inside.entries.items
    (c.in-Some.place, c.in-Some.field-0-1) c.in-Some.ensures.items c.self.invariant c.swap_remove.ensures.updates.0
