use Rattle.std.proofs.Common.{sym, ap, ◌∙◌}
use Rattle.std.specs.Prelude.{option_map}
use Rattle.spec_run.specs.Compiled.{compiled_instance}
use Rattle.bm_world.specs.Playing.{setup_in}
use Rattle.next_outlook.proofs.Endorsing.{endorsed_none}
use Rattle.next_outlook.proofs.endorsed.has_endorsed.Goals as goal

pub has_endorsed_with-requires : goal.has_endorsed_with-requires
has_endorsed_with-requires g c = ap (option_map (λ x. x.now)) (sym c.in-Some.is) ∙ c.compiled.ensures

pub returns-in-None : goal.returns-in-None
returns-in-None g c =
    let s = setup_in g.H.Hash32.digest_of c.args.world.now in
    endorsed_none s c.args.world.now.world (compiled_instance s c.args.world.now.world c.args.contract) c.args.party.now
    (ap (option_map (λ x. x.now)) (sym c.in-None.is) ∙ c.compiled.ensures)
