use Rattle.std.proofs.Common.{◌≡◌, drop}
use Rattle.spec_terms.specs.Faults.{are_among}
use Rattle.spec_terms.specs.Precondition.{names_of, secrets}
use Rattle.bm_wellformed.proofs.entries.are_secrets.Given as goal

abbrev pub invariant-loop-name : goal.invariant-loop-name
invariant-loop-name l = are_among (drop l.name-index l.names) (names_of (secrets l.pre)) ≡ are_among l.names (names_of (secrets l.pre))
