use Rattle.std.proofs.Common.{◌≡◌, take}
use Rattle.spec_tool.proofs.finding.copy_findings.Given as goal

-- the copies so far
abbrev pub invariant-loop-finding : goal.invariant-loop-finding
invariant-loop-finding l = l.copies ≡ take l.finding-index l.findings
