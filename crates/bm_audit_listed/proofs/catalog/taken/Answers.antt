use Rattle.bm_audit_listed.proofs.Placing.{leaves_by}
use Rattle.bm_audit_listed.proofs.catalog.taken.Goals as goal

pub returns-in-Some-clause-left : goal.returns-in-Some-clause-left
returns-in-Some-clause-left c = leaves_by _ _ _ c.remove.ensures.updates
