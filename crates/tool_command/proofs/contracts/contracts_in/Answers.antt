use Rattle.std.proofs.Common.{◌≡◌, ◌+◌, List, drop, sym, ap, subst, ◌∙◌}
use Rattle.spec_terms.specs.Advert.{Advert}
use Rattle.spec_tool.specs.Answers as spec
use Rattle.tool_command.specs.Judges.{behind}
use Rattle.tool_command.proofs.InOrder.{goes_on}
use Rattle.tool_command.proofs.contracts.contracts_in.Goals as goal

pub loop-number-preserved : goal.loop-number-preserved
loop-number-preserved c =
    let n = c.loop-number.number in
    let texts = c.args.texts.now in
    subst (λ (prefix : List Advert). behind prefix (spec.contracts_in (n + 1) (drop (n + 1) texts)) ≡ spec.contracts_in 0 texts) (sym c.in_ok-push-in-Ok.ensures.items)
    (goes_on c.loop-number.contracts.items n texts c.index-texts-number.result c.in-Ok.contract (spec.contracts_in 0 texts) c.loop-number-test.true
    (sym (ap spec.contract_in c.index-texts-number.is) ∙ c.in-Ok.ensures) c.loop-number.invariant)
