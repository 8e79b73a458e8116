use Rattle.std.proofs.Common.{◌≡◌, ◌++◌, drop}
use Rattle.deal_finish.proofs.signatures.put_items.Given as goal

abbrev pub invariant-loop-item : goal.invariant-loop-item
invariant-loop-item l = l.stack.items ++ drop l.item-index l.items ≡ l.initial.stack.items ++ l.items
