use Rattle.theory_plan_text.proofs.AuditTexts.{reports_back}
use Rattle.theory_plan_text.proofs.reports_read_back.Goals as goal

pub returns : goal.returns
returns c = reports_back
