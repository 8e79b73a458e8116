use Rattle.std.proofs.Common.{ap, ◌∙◌}
use Rattle.std.specs.Prelude.{is_some}
use Rattle.bm_translate.proofs.Lookups.{with_there}
use Rattle.bm_translate.proofs.kinds.is_advertised.Goals as goal

pub returns-in-Some : goal.returns-in-Some
returns-in-Some c = ap is_some c.in-Some.ensures ∙ with_there c.args.config.now.advertised c.args.contract

pub returns-in-None : goal.returns-in-None
returns-in-None c = ap is_some c.in-None.ensures ∙ with_there c.args.config.now.advertised c.args.contract
