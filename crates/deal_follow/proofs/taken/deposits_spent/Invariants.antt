use Rattle.std.proofs.Common.{◌≡◌, ◌++◌, drop}
use Rattle.deal_follow.specs.Spending.{names_spent}
use Rattle.deal_follow.proofs.taken.deposits_spent.Given as goal

abbrev pub invariant-loop-input : goal.invariant-loop-input
invariant-loop-input l =
    l.names.items ++ names_spent l.live (drop l.input-index l.inputs) ≡ names_spent l.live l.inputs
