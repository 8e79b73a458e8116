use Rattle.std.proofs.Common.{sym, ap, ◌∙◌}
use Rattle.std.specs.Prelude.{option_map}
use Rattle.spec_run.specs.Compiled.{compiled_instance}
use Rattle.bm_world.specs.Playing.{setup_in}
use Rattle.bm_audit.proofs.Listing.{missing_none}
use Rattle.bm_audit.proofs.report.missing_in.Goals as goal

pub missing_with-requires : goal.missing_with-requires
missing_with-requires g c = ap (option_map (λ x. x.now)) (sym c.in-Some.is) ∙ c.compiled.ensures

pub returns-in-None : goal.returns-in-None
returns-in-None g c =
    let s = setup_in g.H.Hash32.digest_of c.args.world.now in
    c.new.ensures
    ∙ missing_none s c.args.world.now.world (compiled_instance s c.args.world.now.world c.args.contract)
    (ap (option_map (λ x. x.now)) (sym c.in-None.is) ∙ c.compiled.ensures)
