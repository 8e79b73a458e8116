use Rattle.std.proofs.Common.{◌≡◌, ◌++◌, drop}
use Rattle.spec_terms.specs.Precondition.{persistent, names_of}
use Rattle.deal_compile.proofs.transactions.initial_deposits.Given as goal

abbrev pub invariant-loop-entry : goal.invariant-loop-entry
invariant-loop-entry l = l.deposits.items ++ names_of (persistent (drop l.entry-index l.pre)) ≡ names_of (persistent l.pre)
