use Rattle.bm_exchange.proofs.Posting.{cut_behind}
use Rattle.bm_exchange.proofs.posts.cut_to.Goals as goal

pub returns : goal.returns
returns c =
    cut_behind c.args.indexed.now c.args.latest.now c.truncate-2.new.self c.args.count c.count-before.result c.count-before.ensures
    c.if-count-before.false c.truncate-2.ensures
