use Rattle.std.proofs.Common.{sym, ap, ◌∙◌}
use Rattle.std.specs.Prelude.{option_map}
use Rattle.spec_run.specs.Compiled.{compiled_instance}
use Rattle.bm_world.specs.Playing.{setup_in}
use Rattle.next_outlook.proofs.Endorsing.{initials_none}
use Rattle.next_outlook.proofs.hands.is_start_in_hand.Goals as goal

pub is_start_signed_with-requires : goal.is_start_signed_with-requires
is_start_signed_with-requires g c = ap (option_map (λ x. x.now)) (sym c.in-Some.is) ∙ c.compiled.ensures

pub returns-in-None : goal.returns-in-None
returns-in-None g c =
    let s = setup_in g.H.Hash32.digest_of c.args.world.now in
    initials_none s c.args.world.now.world (compiled_instance s c.args.world.now.world c.args.contract) c.args.party.now
    (ap (option_map (λ x. x.now)) (sym c.in-None.is) ∙ c.compiled.ensures)
