use Rattle.bm_plan.proofs.Json.Values.{seen_of, weight_text}
use Rattle.bm_plan.proofs.values.weight_value.Goals as goal

pub returns : goal.returns
returns c = seen_of c.told_weight.result _ _ c.told_weight.ensures (weight_text c.args.weight.now)
