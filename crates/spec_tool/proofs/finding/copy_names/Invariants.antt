use Rattle.std.proofs.Common.{◌≡◌, take}
use Rattle.spec_tool.proofs.finding.copy_names.Given as goal

-- the copies so far
abbrev pub invariant-loop-name : goal.invariant-loop-name
invariant-loop-name l = l.copies ≡ take l.name-index l.names
