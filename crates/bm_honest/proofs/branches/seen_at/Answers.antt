use Rattle.bm_honest.proofs.Standing.{known_seen}
use Rattle.bm_honest.proofs.branches.seen_at.Goals as goal

pub returns-clause-known : goal.returns-clause-known
returns-clause-known c =
    known_seen c.args.checked.now c.args.path.now _ _ c.advert-advert.ensures.well_formed
    (c.in_ok-asked.ensures c.args.checked.now.root c.requires.arena c.requires.nodes)
