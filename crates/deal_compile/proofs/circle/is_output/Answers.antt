use Rattle.std.proofs.Common.{sym, ap, ◌∙◌}
use Rattle.std.specs.Prelude.{option_map, is_some}
use Rattle.deal_compile.proofs.Own.{found_any}
use Rattle.deal_compile.proofs.circle.is_output.Goals as goal

pub returns-in-Some : goal.returns-in-Some
returns-in-Some c = ap is_some (sym (ap (option_map (λ x. x.now)) c.in-Some.is) ∙ c.find.ensures.found) ∙ found_any c.args.outputs.now c.args.script.now

pub returns-in-None : goal.returns-in-None
returns-in-None c = ap is_some (sym (ap (option_map (λ x. x.now)) c.in-None.is) ∙ c.find.ensures.found) ∙ found_any c.args.outputs.now c.args.script.now
