use Rattle.std.proofs.Common.{◌≡◌, ◌++◌, drop}
use Rattle.std.specs.List.{flat_map}
use Rattle.spec_tool.specs.AuditText.{finding_line}
use Rattle.bm_audit.proofs.finding_text.put_findings.Given as goal

abbrev pub invariant-loop-finding : goal.invariant-loop-finding
invariant-loop-finding l =
    l.out.items ++ flat_map finding_line (drop l.finding-index l.findings) ≡ l.initial.out.items ++ flat_map finding_line l.findings
