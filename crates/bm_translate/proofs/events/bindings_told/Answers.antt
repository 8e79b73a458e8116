use Rattle.bm_translate.proofs.Lookups.{bindings_none}
use Rattle.bm_translate.proofs.events.bindings_told.Goals as goal

pub returns-in-None : goal.returns-in-None
returns-in-None c = bindings_none c.args.exchange.now.advertised c.args.contract c.in-None.ensures.there
