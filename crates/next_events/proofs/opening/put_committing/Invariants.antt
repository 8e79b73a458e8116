use Rattle.std.proofs.Common.{◌≡◌, ◌++◌, drop, map}
use Rattle.spec_next.specs.Candidates.{committing}
use Rattle.next_events.proofs.opening.put_committing.Given as goal

abbrev pub invariant-loop-party : goal.invariant-loop-party
invariant-loop-party l =
    l.found ++ map (committing l.contract) (drop l.party-index l.people) ≡ l.initial.found ++ map (committing l.contract) l.people
