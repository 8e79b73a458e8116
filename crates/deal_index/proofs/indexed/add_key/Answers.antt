use Rattle.std.proofs.Common.{true, false, sym, ◌∙◌}
use Rattle.deal_index.proofs.Placing.{known_different}
use Rattle.deal_index.proofs.indexed.add_key.Goals as goal

pub returns-then-are_apart-clause-apart : goal.returns-then-are_apart-clause-apart
returns-then-are_apart-clause-apart c =
    known_different c.args.keys.now c.add_telling.new.self c.args.key.now true c.in_ok-is_new.is_new (sym c.if-are_apart.true ∙ c.requires.apart)
    c.in_ok-is_new.ensures.ok c.in_ok-is_new.ensures.new

pub returns-else-are_apart-clause-apart : goal.returns-else-are_apart-clause-apart
returns-else-are_apart-clause-apart c =
    c.if-are_apart.false
    ∙ known_different c.args.keys.now c.add_telling.new.self c.args.key.now false c.in_ok-is_new.is_new (sym c.if-are_apart.false ∙ c.requires.apart)
    c.in_ok-is_new.ensures.ok c.in_ok-is_new.ensures.new
