use Rattle.std.proofs.Common.{◌≡◌, drop}
use Rattle.spec_terms.specs.Faults.{first_without}
use Rattle.spec_terms.specs.Precondition.{owners_of, persistent}
use Rattle.bm_wellformed.proofs.judging.first_without.Given as goal

abbrev pub invariant-loop-party : goal.invariant-loop-party
invariant-loop-party l = first_without (owners_of (persistent l.pre)) (drop l.party-index l.parties) ≡ first_without (owners_of (persistent l.pre)) l.parties
