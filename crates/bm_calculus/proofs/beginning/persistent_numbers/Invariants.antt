use Rattle.std.proofs.Common.{◌≡◌, ◌++◌, drop}
use Rattle.spec_calculus.specs.Beginning.{numbers_of, persistent_names}
use Rattle.bm_calculus.proofs.beginning.persistent_numbers.Given as goal

abbrev pub invariant-loop-entry : goal.invariant-loop-entry
invariant-loop-entry l =
    l.numbers.items ++ numbers_of l.bindings (persistent_names (drop l.entry-index l.pre)) ≡ numbers_of l.bindings (persistent_names l.pre)
