use Rattle.std.proofs.Common.{◌≡◌, drop}
use Rattle.spec_data.specs.Lists.{is_among}
use Rattle.spec_terms.specs.Precondition.{names_of, volatile}
use Rattle.bm_wellformed.proofs.entries.is_volatile.Given as goal

abbrev pub invariant-loop-entry : goal.invariant-loop-entry
invariant-loop-entry l = is_among l.name (names_of (volatile (drop l.entry-index l.pre))) ≡ is_among l.name (names_of (volatile l.pre))
