use Rattle.std.proofs.Common.{length}
use Rattle.bm_audit.specs.Found.{Midway}
use Rattle.bm_audit.proofs.findings.findings_of.Given as goal

abbrev pub invariant-loop-rest : goal.invariant-loop-rest
invariant-loop-rest g l = Midway g.H.Hash32.digest_of l.initial.world l.world l.catalog l.text l.rest l.line l.findings

abbrev pub decreases-loop-rest : goal.decreases-loop-rest
decreases-loop-rest g l = length l.rest
