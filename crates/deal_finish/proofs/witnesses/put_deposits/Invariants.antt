use Rattle.std.proofs.Common.{◌≡◌, ◌++◌, drop}
use Rattle.deal_finish.specs.Filled.{deposits_by}
use Rattle.deal_finish.proofs.witnesses.put_deposits.Given as goal

abbrev pub invariant-loop-input : goal.invariant-loop-input
invariant-loop-input l =
    l.out.items ++ deposits_by l.given l.tx l.number (drop l.input-index l.inputs)
    ≡ l.initial.out.items ++ deposits_by l.given l.tx l.first l.inputs
