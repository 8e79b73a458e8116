use Rattle.std.proofs.Common.{◌≡◌, subst}
use Rattle.std.specs.Prelude.{IfOk}
use Rattle.deal_plan.proofs.PsbtsTold.{all_told}
use Rattle.deal_plan.proofs.psbts.psbts_text.Goals as goal

pub returns : goal.returns
returns c hash keys s made =
    subst (λ t. IfOk c.lines.result (λ text. text.items ≡ t)) (all_told hash keys s c.args.transactions.now made) c.lines.ensures
