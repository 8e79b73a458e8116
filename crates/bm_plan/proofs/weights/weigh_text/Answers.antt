use Rattle.std.proofs.Common.{◌≡◌, subst, IfOk}
use Rattle.bm_plan.proofs.WeighTold.{weigh_told-plan}
use Rattle.bm_plan.proofs.weights.weigh_text.Goals as goal

pub returns-clause-compiled : goal.returns-clause-compiled
returns-clause-compiled c hash s size advert e =
    subst (λ t. IfOk c.told.result (λ text. text.items ≡ t)) (weigh_told-plan hash s c.args.checked.now _ size advert e) c.told.ensures
