use Rattle.std.proofs.Common.{◌<◌, List, ℕ, Some, None, map, sym, ap, subst, ◌∙◌}
use Rattle.std.specs.Prelude.{slice_index, if◌then◌else◌}
use Rattle.std.specs.Char.{to_ascii_lowercase}
use Rattle.std.specs.Str.{str_to_ascii_lowercase}
use Rattle.spec_address.specs.Address.{address, script_of, value_of}
use Rattle.deal_address.proofs.Scripts.{answered, first_small}
use Rattle.deal_address.proofs.reading.read_short.Goals as goal

pub script_of-requires-clause-small : goal.script_of-requires-clause-small
script_of-requires-clause-small c =
    subst (λ values. slice_index values 0 < 32) (sym (c.deref.ensures.value ∙ c.in_ok-values.ensures)) (first_small c.behind.result.now to_ascii_lowercase)

pub returns-then-not-spells : goal.returns-then-not-spells
returns-then-not-spells c =
    let spelled = c.in_ok-script.ensures ∙ ap script_of (c.deref.ensures.value ∙ c.in_ok-values.ensures ∙ ap (λ word. map value_of (str_to_ascii_lowercase word)) c.behind.ensures) in
    let written = c.in_ok-text.ensures ∙ ap (address c.args.hrp.now) c.deref-2.ensures.value in
    sym (ap (λ t. if t then Some c.in_ok-script.script.items else None) c.if-not-spells.true)
    ∙ answered c.args.hrp.now c.args.word.now c.in_ok-script.script.items c.in_ok-text.text c.spells.result spelled written c.spells.ensures

pub returns : goal.returns
returns c =
    let spelled = c.in_ok-script.ensures ∙ ap script_of (c.deref.ensures.value ∙ c.in_ok-values.ensures ∙ ap (λ word. map value_of (str_to_ascii_lowercase word)) c.behind.ensures) in
    let written = c.in_ok-text.ensures ∙ ap (address c.args.hrp.now) c.deref-2.ensures.value in
    ap (λ (script : List ℕ). Some script) c.of.ensures ∙ sym (ap (λ t. if t then Some c.in_ok-script.script.items else None) c.if-not-spells.false)
    ∙ answered c.args.hrp.now c.args.word.now c.in_ok-script.script.items c.in_ok-text.text c.spells.result spelled written c.spells.ensures
