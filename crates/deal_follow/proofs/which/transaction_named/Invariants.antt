use Rattle.std.proofs.Common.{◌≡◌, drop}
use Rattle.spec_chain.specs.Outputs.{transaction_named}
use Rattle.deal_follow.proofs.which.transaction_named.Given as goal

abbrev pub invariant-loop-transaction : goal.invariant-loop-transaction
invariant-loop-transaction l =
    transaction_named (drop l.transaction-index l.transactions) l.which ≡ transaction_named l.transactions l.which
