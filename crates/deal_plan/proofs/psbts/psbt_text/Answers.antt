use Rattle.std.proofs.Common.{ap, ◌∙◌, ◌≡◌, subst}
use Rattle.std.specs.Prelude.{IfOk}
use Rattle.spec_tool.specs.PsbtText.{psbt_line}
use Rattle.deal_plan.specs.PsbtParts.{psbt_for}
use Rattle.deal_plan.proofs.PsbtsTold.{psbt_told}
use Rattle.deal_plan.proofs.psbts.psbt_text.Goals as goal

pub returns : goal.returns
returns c hash keys advert l is =
    subst (λ p. IfOk c.line.result (λ text. text.items ≡ psbt_line p)) (ap psbt_for is ∙ psbt_told hash keys advert l) c.line.ensures
