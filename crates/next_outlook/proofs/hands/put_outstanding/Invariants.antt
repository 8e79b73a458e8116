use Rattle.std.proofs.Common.{◌≡◌, ◌++◌, drop}
use Rattle.std.specs.Prelude.{filter, not}
use Rattle.spec_next.specs.Hands.{is_in_hand}
use Rattle.bm_world.specs.Playing.{setup_in}
use Rattle.next_outlook.proofs.hands.put_outstanding.Given as goal

abbrev pub invariant-loop-requirement : goal.invariant-loop-requirement
invariant-loop-requirement g l =
    let s = setup_in g.H.Hash32.digest_of l.world in
    let w = l.world.world in
    l.outstanding ++ filter (λ x. not (is_in_hand s w x)) (drop l.requirement-index l.requirements)
    ≡ l.initial.outstanding ++ filter (λ x. not (is_in_hand s w x)) l.requirements
