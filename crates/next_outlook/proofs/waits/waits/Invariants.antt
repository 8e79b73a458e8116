use Rattle.std.proofs.Common.{◌≡◌, ◌++◌, drop}
use Rattle.spec_next.specs.Prospects.{waits}
use Rattle.next_outlook.proofs.waits.waits.Given as goal

abbrev pub invariant-loop-party : goal.invariant-loop-party
invariant-loop-party l =
    l.list ++ waits l.config (drop l.party-index l.people) l.prospects ≡ waits l.config l.people l.prospects
