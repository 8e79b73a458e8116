use Rattle.std.proofs.Common.{◌≡◌, take}
use Rattle.spec_next.proofs.requirement.copy_requirements.Given as goal

-- the copies so far
abbrev pub invariant-loop-requirement : goal.invariant-loop-requirement
invariant-loop-requirement l = l.list ≡ take l.requirement-index l.requirements
