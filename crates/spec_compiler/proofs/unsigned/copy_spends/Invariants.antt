use Rattle.std.proofs.Common.{◌≡◌, take}
use Rattle.spec_compiler.proofs.unsigned.copy_spends.Given as goal

-- the copies so far
abbrev pub invariant-loop-spent : goal.invariant-loop-spent
invariant-loop-spent l = l.copies ≡ take l.spent-index l.spends
