use Rattle.std.proofs.Common.{◌≡◌, ◌++◌, drop}
use Rattle.spec_calculus.specs.Beginning.{numbers_of}
use Rattle.next_events.proofs.leads.numbers_of.Given as goal

abbrev pub invariant-loop-name : goal.invariant-loop-name
invariant-loop-name l = l.numbers.items ++ numbers_of l.bindings (drop l.name-index l.names) ≡ numbers_of l.bindings l.names
