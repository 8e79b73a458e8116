use Rattle.std.proofs.Common.{sym, ap, ◌∙◌}
use Rattle.std.specs.Prelude.{option_map}
use Rattle.spec_run.specs.Compiled.{compiled_instance}
use Rattle.bm_world.specs.Playing.{setup_in}
use Rattle.bm_world_sign.proofs.Signed.{found_there, none_there}
use Rattle.next_outlook.proofs.hands.transaction_at.Goals as goal

pub returns-in-Some : goal.returns-in-Some
returns-in-Some g c =
    let s = setup_in g.H.Hash32.digest_of c.args.world.now in
    found_there s (compiled_instance s c.args.world.now.world c.args.contract) c.in-Some.compiled.now c.args.path.now _
    (ap (option_map (λ x. x.now)) (sym c.in-Some.is) ∙ c.compiled.ensures) c.transaction_at.ensures.compiled

pub returns-in-None : goal.returns-in-None
returns-in-None g c =
    let s = setup_in g.H.Hash32.digest_of c.args.world.now in
    none_there s (compiled_instance s c.args.world.now.world c.args.contract) c.args.path.now
    (ap (option_map (λ x. x.now)) (sym c.in-None.is) ∙ c.compiled.ensures)
