use Rattle.std.proofs.Common.{sym, ap, ◌∙◌, Some}
use Rattle.std.specs.Prelude.{option_map}
use Rattle.deal_compile.specs.declared.keys.OwnScript.{OwnScript}
use Rattle.deal_compile.proofs.Under.{found_script}
use Rattle.deal_compile.proofs.keys.script_under.Goals as goal

pub returns-in-Some : goal.returns-in-Some
returns-in-Some c =
    ap Some c.as_slice.ensures
    ∙ ap (option_map (λ (e : OwnScript). e.script)) (sym (ap (option_map (λ x. x.now)) c.in-Some.is) ∙ c.find.ensures.found)
    ∙ found_script c.args.index.now c.args.name.now

pub returns-in-None : goal.returns-in-None
returns-in-None c =
    ap (option_map (λ (e : OwnScript). e.script)) (sym (ap (option_map (λ x. x.now)) c.in-None.is) ∙ c.find.ensures.found)
    ∙ found_script c.args.index.now c.args.name.now
