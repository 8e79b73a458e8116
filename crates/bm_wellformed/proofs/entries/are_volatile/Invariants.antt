use Rattle.std.proofs.Common.{◌≡◌, drop}
use Rattle.spec_terms.specs.Faults.{are_among}
use Rattle.spec_terms.specs.Precondition.{names_of, volatile}
use Rattle.bm_wellformed.proofs.entries.are_volatile.Given as goal

abbrev pub invariant-loop-name : goal.invariant-loop-name
invariant-loop-name l = are_among (drop l.name-index l.names) (names_of (volatile l.pre)) ≡ are_among l.names (names_of (volatile l.pre))
