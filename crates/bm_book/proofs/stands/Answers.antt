use Rattle.std.proofs.Common.{sym, ◌∙◌}
use Rattle.bm_book.proofs.Pairs.{stands_there}
use Rattle.bm_book.proofs.stands.Goals as goal

pub returns-then-stands_at : goal.returns-then-stands_at
returns-then-stands_at c =
    sym (stands_there c.args.entries.now c.find.result c.args.entry.now (sym c.stands_at.ensures ∙ c.if-stands_at.true))
