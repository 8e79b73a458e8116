use Rattle.std.proofs.Common.{sym, ap, ◌∙◌}
use Rattle.std.specs.Prelude.{option_map}
use Rattle.deal_compile.proofs.Under.{key_or, found_under}
use Rattle.deal_compile.proofs.keys.key_under.Goals as goal

pub returns-in-Some : goal.returns-in-Some
returns-in-Some c = ap key_or (sym (ap (option_map (λ x. x.now)) c.in-Some.is) ∙ c.find.ensures.found) ∙ found_under c.args.index.now c.args.text.now

pub returns-in-None : goal.returns-in-None
returns-in-None c = ap key_or (sym (ap (option_map (λ x. x.now)) c.in-None.is) ∙ c.find.ensures.found) ∙ found_under c.args.index.now c.args.text.now
