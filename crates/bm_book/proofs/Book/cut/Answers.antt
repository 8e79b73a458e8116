use Rattle.std.proofs.Common.{ap, ◌∙◌}
use Rattle.bm_book.specs.Entries.{pairs_of}
use Rattle.bm_book.proofs.Pairs.{are_entries-take, pairs_of-take}
use Rattle.bm_book.proofs.Book.cut.Goals as goal

pub returns : goal.returns
returns c = rw (← c.self.view_is) (ap pairs_of c.cut.ensures ∙ pairs_of-take c.args.count c.self.inside.entries)

pub invariant_of-self : goal.invariant_of-self
invariant_of-self c = rw c.cut.ensures (are_entries-take c.args.count c.self.inside.entries c.self.invariant)
