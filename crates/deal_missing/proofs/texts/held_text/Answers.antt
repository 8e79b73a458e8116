use Rattle.std.proofs.Common.{◌≡◌, subst}
use Rattle.std.specs.Prelude.{IfOk}
use Rattle.deal_missing.proofs.Told.{held_is}
use Rattle.deal_missing.proofs.texts.held_text.Goals as goal

pub returns : goal.returns
returns c = λ hash keys s are.
    subst (λ t. IfOk c.held_of.result (λ text. text.items ≡ t)) (held_is hash keys c.args.given.now s c.args.transactions.now are)
    c.held_of.ensures
