use Rattle.std.proofs.Common.{◌≡◌, take}
use Rattle.spec_bitcoin.proofs.tx.copy_outputs.Given as goal

-- the copies so far
abbrev pub invariant-loop-output : goal.invariant-loop-output
invariant-loop-output l = l.copies.items ≡ take l.output-index l.outputs
