use Rattle.std.proofs.Common.{◌≡◌, ◌++◌, drop}
use Rattle.bm_audit_listed.specs.Parts.{absent_among}
use Rattle.bm_audit_listed.proofs.absence.absent.Given as goal

abbrev pub invariant-loop-candidate : goal.invariant-loop-candidate
invariant-loop-candidate l =
    l.absent ++ absent_among (drop l.candidate-index l.candidates) l.findings ≡ absent_among l.candidates l.findings
