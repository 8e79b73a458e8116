use Rattle.theory_plan_text.proofs.Audits.{audits}
use Rattle.theory_plan_text.proofs.audits_are_read.Goals as goal

pub returns : goal.returns
returns c = audits
