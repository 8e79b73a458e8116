use Rattle.theory_plan_text.proofs.Audits.{same_audits}
use Rattle.theory_plan_text.proofs.same_audits_show_the_same.Goals as goal

pub returns : goal.returns
returns c = same_audits
