use Rattle.std.proofs.Common.{rules}
use Rattle.bm_wellformed.proofs.Found.{if_found}
use Rattle.bm_wellformed.proofs.search.find.Goals as goal

pub returns : goal.returns
returns c = if_found c.args.flaw c.args.advert.now c.in_choice.result _ _ _ c.in_choice.ensures (search rules) (search rules) (search rules)
