use Rattle.std.proofs.Common.{◌≡◌, not, subst, ap, ◌∙◌}
use Rattle.std.specs.Prelude.{IfOk, is_some}
use Rattle.std.proofs.lemmas.Result.{IfOk-weaker}
use Rattle.deal_missing.proofs.Told.{unendorsed_is, starts_is}
use Rattle.deal_missing.proofs.firsts.first_unendorsed.Goals as goal

pub returns-clause-first : goal.returns-clause-first
returns-clause-first c = λ hash keys s are.
    subst (λ p. IfOk c.unendorsed.result (λ o. o ≡ p)) (unendorsed_is hash keys c.args.given.now s c.args.transactions.now are)
    c.unendorsed.ensures

pub returns-clause-none : goal.returns-clause-none
returns-clause-none c = λ hash keys s are.
    IfOk-weaker c.unendorsed.result _ _
    (λ _ e. ap (λ p. not (is_some p)) e ∙ starts_is hash keys c.args.given.now s c.args.transactions.now are)
    c.unendorsed.ensures
