use Rattle.std.proofs.Common.{◌≡◌, take, reverse}
use Rattle.bm_interp.proofs.evaluating.stack_of.Given as goal

abbrev pub invariant-loop-item : goal.invariant-loop-item
invariant-loop-item l = l.stack ≡ reverse (take l.item-index l.items)
