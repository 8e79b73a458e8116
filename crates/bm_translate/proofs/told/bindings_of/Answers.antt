use Rattle.bm_translate.proofs.Lookups.{with_some, with_none}
use Rattle.bm_translate.proofs.told.bindings_of.Goals as goal

pub returns-in-Some : goal.returns-in-Some
returns-in-Some c = with_some c.args.config.now.advertised c.args.contract c.in-Some.bindings.now c.in-Some.ensures

pub returns-in-None : goal.returns-in-None
returns-in-None c = with_none c.args.config.now.advertised c.args.contract c.in-None.ensures
