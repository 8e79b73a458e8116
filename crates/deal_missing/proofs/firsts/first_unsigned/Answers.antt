use Rattle.std.proofs.Common.{◌≡◌, subst}
use Rattle.std.specs.Prelude.{IfOk}
use Rattle.deal_missing.proofs.Told.{unsigned_is}
use Rattle.deal_missing.proofs.firsts.first_unsigned.Goals as goal

pub returns : goal.returns
returns c = λ hash keys advert l is.
    subst (λ p. IfOk c.unsigned.result (λ o. o ≡ p)) (unsigned_is hash keys c.args.given.now advert l c.args.transaction.now is)
    c.unsigned.ensures
