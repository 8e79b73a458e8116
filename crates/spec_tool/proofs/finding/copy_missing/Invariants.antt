use Rattle.std.proofs.Common.{◌≡◌, take}
use Rattle.spec_tool.proofs.finding.copy_missing.Given as goal

-- the copies so far
abbrev pub invariant-loop-which : goal.invariant-loop-which
invariant-loop-which l = l.copies ≡ take l.which-index l.missing
