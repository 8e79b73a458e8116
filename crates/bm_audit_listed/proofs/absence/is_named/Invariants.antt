use Rattle.std.proofs.Common.{◌≡◌, drop}
use Rattle.spec_tool.specs.Audit.{is_named}
use Rattle.bm_audit_listed.proofs.absence.is_named.Given as goal

abbrev pub invariant-loop-finding : goal.invariant-loop-finding
invariant-loop-finding l = is_named (drop l.finding-index l.findings) l.which ≡ is_named l.findings l.which
