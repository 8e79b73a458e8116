use Rattle.std.proofs.Common.{◌≡◌, ◌++◌, drop}
use Rattle.draw_replies.proofs.playing.copies.Given as goal

abbrev pub invariant-loop-contract : goal.invariant-loop-contract
invariant-loop-contract l = l.copies.items ++ drop l.contract-index l.contracts ≡ l.contracts
