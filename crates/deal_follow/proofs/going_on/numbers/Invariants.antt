use Rattle.std.proofs.Common.{◌≡◌, ◌++◌, drop}
use Rattle.deal_follow.specs.Follows.{numbers_of}
use Rattle.deal_follow.proofs.going_on.numbers.Given as goal

abbrev pub invariant-loop-output : goal.invariant-loop-output
invariant-loop-output l =
    l.numbers.items ++ numbers_of (drop l.output-index l.outputs) ≡ numbers_of l.outputs
