use Rattle.std.proofs.Common.{sym, ◌∙◌}
use Rattle.deal_index.proofs.Placing.{stands_first}
use Rattle.deal_index.proofs.indexed.find_place.Goals as goal

pub returns-then-stands_at : goal.returns-then-stands_at
returns-then-stands_at c =
    stands_first c.args.keys.now c.get-place.result c.args.key.now (sym c.requires.apart ∙ c.if-are_apart.true)
    (sym c.stands_at.ensures ∙ c.if-stands_at.true)
