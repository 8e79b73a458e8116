use Rattle.std.proofs.Common.{◌≡◌, subst, IfOk}
use Rattle.bm_plan.proofs.PlanTold.{plan_told-setting}
use Rattle.bm_plan.proofs.plan.plan_text.Goals as goal

pub returns-clause-compiled : goal.returns-clause-compiled
returns-clause-compiled c hash s e =
    subst (λ t. IfOk c.told.result (λ text. text.items ≡ t)) (plan_told-setting hash s _ e) c.told.ensures
