use Rattle.theory_audit.proofs.Audited.{audits_find}
use Rattle.theory_audit.proofs.audits_find_all.Goals as goal

pub returns : goal.returns
returns c = audits_find
