use Rattle.theory_plan_text.proofs.Plans.{same_plans}
use Rattle.theory_plan_text.proofs.same_plans_show_the_same.Goals as goal

pub returns : goal.returns
returns c = same_plans
