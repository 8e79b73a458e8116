use Rattle.std.proofs.Common.{◌≡◌, subst}
use Rattle.std.specs.Prelude.{IfOk}
use Rattle.deal_missing.proofs.Told.{endorsed_is}
use Rattle.deal_missing.proofs.endorsing.is_endorsed_by.Goals as goal

pub returns : goal.returns
returns c = λ hash keys advert l is.
    subst (λ t. IfOk c.is_endorsed.result (λ b. b ≡ t))
    (endorsed_is hash keys advert l c.args.transaction.now c.args.party.now is)
    c.is_endorsed.ensures
