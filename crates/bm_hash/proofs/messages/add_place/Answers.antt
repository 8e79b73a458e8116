use Rattle.bm_hash.proofs.Placed.{placed_behind}
use Rattle.bm_hash.proofs.messages.add_place.Goals as goal

pub returns-clause-indexed : goal.returns-clause-indexed
returns-clause-indexed c =
    placed_behind c.args.index.now c.widen.new.index c.insert.new.self c.args.digest c.args.place c.widen.ensures c.in_ok-insert.ensures.updates
