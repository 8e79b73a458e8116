use Rattle.std.proofs.Common.{◌≡◌, ◌∙◌, subst}
use Rattle.std.specs.Prelude.{IfOk}
use Rattle.deal_plan.specs.Parts.{plan_by}
use Rattle.deal_plan.proofs.Told.{plan_told}
use Rattle.spec_terms.specs.Precondition.{deposits}
use Rattle.deal_compile.proofs.Bound.{names_bound}
use Rattle.deal_plan.proofs.plan.plan_text.Goals as goal

pub plan-requires : goal.plan-requires
plan-requires g c = names_bound (deposits c.args.checked.now.pre) c.args.deal.now.deposits c.requires.places

pub returns : goal.returns
returns g c =
    let hash = g.H.Hash32.digest_of c.args.hasher.now in
    let deal = c.args.deal.now in
    let advert = c.args.checked.now in
    let told = (λ j. plan_by hash deal advert (c.requires.scripts j) (c.requires.transactions j)) ∙ plan_told hash advert deal in
    subst (λ t. IfOk c.plan.result (λ text. text.items ≡ t)) told c.plan.ensures
