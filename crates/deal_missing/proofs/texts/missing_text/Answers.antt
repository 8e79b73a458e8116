use Rattle.std.proofs.Common.{◌≡◌, subst}
use Rattle.std.specs.Prelude.{IfOk}
use Rattle.deal_missing.proofs.Told.{missing_is}
use Rattle.deal_missing.proofs.texts.missing_text.Goals as goal

pub returns : goal.returns
returns c = λ hash keys s are.
    subst (λ t. IfOk c.missing_of.result (λ text. text.items ≡ t)) (missing_is hash keys c.args.given.now s c.args.transactions.now are)
    c.missing_of.ensures
