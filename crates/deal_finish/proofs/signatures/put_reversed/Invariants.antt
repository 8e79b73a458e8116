use Rattle.std.specs.Prelude.{◌≡◌, ◌++◌, reverse, length}
use Rattle.deal_finish.proofs.signatures.put_reversed.Given as goal

abbrev pub invariant-loop-item : goal.invariant-loop-item
invariant-loop-item l = l.stack.items ++ reverse l.rest ≡ l.initial.stack.items ++ reverse l.items

abbrev pub decreases-loop-item : goal.decreases-loop-item
decreases-loop-item l = length l.rest
