use Rattle.std.proofs.Common.{◌≡◌, ◌++◌, drop}
use Rattle.spec_run.specs.Compiled.{compiled_instance}
use Rattle.spec_next.specs.Requirements.{unmet}
use Rattle.bm_world.specs.Playing.{setup_in}
use Rattle.next_outlook.specs.Endorsed.{endorsed_by}
use Rattle.next_outlook.proofs.requirements.put_unendorsed.Given as goal

abbrev pub invariant-loop-party : goal.invariant-loop-party
invariant-loop-party g l =
    let s = setup_in g.H.Hash32.digest_of l.world in
    let w = l.world.world in
    l.requirements ++ unmet (endorsed_by s w l.contract (compiled_instance s w l.contract) (drop l.party-index l.people))
    ≡ l.initial.requirements ++ unmet (endorsed_by s w l.contract (compiled_instance s w l.contract) l.people)
