use Rattle.std.proofs.Common.{◌≡◌, ◌++◌, drop}
use Rattle.spec_terms.specs.Precondition.{deposits}
use Rattle.deal_follow.specs.Deposits.{deposits_by}
use Rattle.deal_follow.proofs.outputs.deposits_in.Given as goal

abbrev pub invariant-loop-entry : goal.invariant-loop-entry
invariant-loop-entry l =
    l.all.items ++ deposits_by l.bound l.number (deposits (drop l.entry-index l.pre)) ≡ deposits_by l.bound 0 (deposits l.pre)
