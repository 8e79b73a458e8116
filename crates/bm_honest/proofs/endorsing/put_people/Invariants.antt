use Rattle.std.proofs.Common.{◌≡◌, ◌++◌, drop}
use Rattle.bm_honest.specs.Pairs.{person_pairs}
use Rattle.bm_honest.proofs.endorsing.put_people.Given as goal

-- the pairs so far and those of the rest are all
abbrev pub invariant-loop-person : goal.invariant-loop-person
invariant-loop-person l =
    l.pairs.items ++ person_pairs l.asked l.digest l.party (drop l.person-index l.people) l.rest
    ≡ l.initial.pairs.items ++ person_pairs l.asked l.digest l.party l.people l.keys
