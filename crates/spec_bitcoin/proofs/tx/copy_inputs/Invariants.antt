use Rattle.std.proofs.Common.{◌≡◌, take}
use Rattle.spec_bitcoin.proofs.tx.copy_inputs.Given as goal

-- the copies so far
abbrev pub invariant-loop-input : goal.invariant-loop-input
invariant-loop-input l = l.copies.items ≡ take l.input-index l.inputs
