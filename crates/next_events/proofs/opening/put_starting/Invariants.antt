use Rattle.std.proofs.Common.{◌≡◌, ◌++◌, drop}
use Rattle.spec_terms.specs.Precondition.{persistent}
use Rattle.spec_next.specs.Candidates.{starting}
use Rattle.next_events.proofs.opening.put_starting.Given as goal

abbrev pub invariant-loop-party : goal.invariant-loop-party
invariant-loop-party l =
    l.found ++ starting l.config l.contract (persistent l.pre) (drop l.party-index l.people)
    ≡ l.initial.found ++ starting l.config l.contract (persistent l.pre) l.people
