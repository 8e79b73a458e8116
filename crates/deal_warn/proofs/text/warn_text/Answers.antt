use Rattle.std.proofs.Common.{◌≡◌, subst}
use Rattle.std.specs.Prelude.{IfOk}
use Rattle.deal_warn.proofs.WarnTold.{text_told}
use Rattle.deal_warn.proofs.text.warn_text.Goals as goal

pub returns : goal.returns
returns c = λ hash keys s same made listed.
    subst (λ t. IfOk c.told.result (λ text. text.items ≡ t))
    (text_told hash keys s c.args.strings.now c.args.checked.now c.args.scripts.now c.args.transactions.now same made listed) c.told.ensures
