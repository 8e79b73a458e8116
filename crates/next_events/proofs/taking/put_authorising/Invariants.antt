use Rattle.std.proofs.Common.{◌≡◌, ◌++◌, drop}
use Rattle.spec_next.specs.Candidates.{authorising}
use Rattle.bm_syntax.specs.View.{guarded}
use Rattle.next_events.proofs.taking.put_authorising.Given as goal

abbrev pub invariant-loop-party : goal.invariant-loop-party
invariant-loop-party l =
    l.found ++ authorising l.config (drop l.party-index l.people) l.output l.branch (guarded l.taken)
    ≡ l.initial.found ++ authorising l.config l.people l.output l.branch (guarded l.taken)
