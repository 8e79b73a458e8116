use Rattle.std.proofs.Common.{◌≡◌, List, ℕ, ap, subst, ◌∙◌}
use Rattle.std.specs.Prelude.{IfOk}
use Rattle.spec_terms.specs.Advert.{Advert}
use Rattle.spec_terms.specs.Precondition.{deposits}
use Rattle.spec_terms.specs.declared.pre.Pre.{Pre}
use Rattle.spec_bitcoin.specs.declared.tx.OutPoint.{OutPoint}
use Rattle.spec_deal.specs.Setting.{deal_instance}
use Rattle.spec_chain.specs.declared.output.Output.{Output}
use Rattle.deal_follow.specs.Deposits.{deposits_by}
use Rattle.deal_follow.proofs.DepositLemmas.{same_deposits}
use Rattle.deal_follow.proofs.outputs.deposit_outputs.Goals as goal

pub returns : goal.returns
returns c =
    let advert = c.args.checked.now in
    let deal = c.args.deal.now in
    let pre = c.deref.ensures.value ∙ ap (λ (a : Advert). a.pre) (c.behind-checked.view_is ∙ c.advert.ensures.value) in
    subst (λ (os : List Output). IfOk c.deposits_in.result (λ v. v.items ≡ os))
    (ap (λ (bound : List (List ℕ × OutPoint)). deposits_by bound 0 (deposits c.deref.result.now)) c.as_slice.ensures
    ∙ ap (λ (es : List Pre). deposits_by deal.deposits 0 (deposits es)) pre
    ∙ same_deposits (deal_instance advert deal) 0 (deposits advert.pre))
    c.deposits_in.ensures
