use Rattle.bm_plan.specs.Told.{listed_values}
use Rattle.bm_plan.proofs.weights.plan.Goals as goal

pub returns : goal.returns
returns c = c.plan_value.ensures (listed_values c.args.checked.now _) c.in_ok-values.ensures
