use Rattle.theory_plan_text.proofs.PlanTexts.{compilations_back}
use Rattle.theory_plan_text.proofs.compilations_read_back.Goals as goal

pub returns : goal.returns
returns c = compilations_back
