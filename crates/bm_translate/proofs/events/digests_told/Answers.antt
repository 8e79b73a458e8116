use Rattle.bm_translate.proofs.Lookups.{digests_none}
use Rattle.bm_translate.proofs.events.digests_told.Goals as goal

pub returns-in-None : goal.returns-in-None
returns-in-None c = digests_none c.args.exchange.now.promises c.args.contract c.args.party.now c.in-None.ensures.there
