use Rattle.std.proofs.Common.{◌≡◌, ◌++◌, [], drop, map}
use Rattle.spec_run.specs.declared.event.Event.TheVariants as events
use Rattle.next_text.proofs.first_events.put_commitments.Given as goal

abbrev pub invariant-loop-party : goal.invariant-loop-party
invariant-loop-party l =
    l.found ++ map (λ party. events.Commit 0 party []) (drop l.party-index l.parties)
    ≡ l.initial.found ++ map (λ party. events.Commit 0 party []) l.parties
