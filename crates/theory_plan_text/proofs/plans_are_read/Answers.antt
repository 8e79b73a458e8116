use Rattle.theory_plan_text.proofs.Plans.{plans}
use Rattle.theory_plan_text.proofs.plans_are_read.Goals as goal

pub returns : goal.returns
returns c = plans
