use Rattle.std.proofs.Common.{◌≡◌, ◌++◌, drop}
use Rattle.spec_next.specs.Candidates.{endorsing}
use Rattle.bm_world.specs.Playing.{setup_in}
use Rattle.next_outlook.proofs.candidates.put_endorsing.Given as goal

abbrev pub invariant-loop-party : goal.invariant-loop-party
invariant-loop-party g l =
    l.found ++ endorsing (setup_in g.H.Hash32.digest_of l.world) l.world.world l.contract (drop l.party-index l.people)
    ≡ l.initial.found ++ endorsing (setup_in g.H.Hash32.digest_of l.world) l.world.world l.contract l.people
