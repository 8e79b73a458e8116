use Rattle.std.proofs.Common.{◌≡◌, subst}
use Rattle.std.specs.Prelude.{IfOk}
use Rattle.deal_missing.proofs.Told.{ready_when}
use Rattle.deal_missing.proofs.ready.is_ready.Goals as goal

pub returns : goal.returns
returns c = λ hash keys s are.
    subst (λ t. IfOk c.starts_of.result (λ b. b ≡ t)) (ready_when hash keys c.args.given.now s c.args.transactions.now are)
    c.starts_of.ensures
