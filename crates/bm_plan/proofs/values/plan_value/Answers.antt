use Rattle.serde_json.specs.View.{view}
use Rattle.spec_tool.specs.WeighText.{bracketed}
use Rattle.bm_plan.proofs.Json.Values.{seen_of, plan_text}
use Rattle.bm_plan.proofs.values.plan_value.Goals as goal

pub returns : goal.returns
returns c texts same =
    seen_of c.told_plan.result _ _ c.told_plan.ensures
    (plan_text c.args.contract (view c.list_value-transactions.result) (bracketed texts) (c.list_value-transactions.ensures texts same))
