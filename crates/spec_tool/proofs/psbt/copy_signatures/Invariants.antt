use Rattle.std.proofs.Common.{◌≡◌, take}
use Rattle.spec_tool.proofs.psbt.copy_signatures.Given as goal

-- the copies so far
abbrev pub invariant-loop-key : goal.invariant-loop-key
invariant-loop-key l = l.copies ≡ take l.key-index l.pairs
