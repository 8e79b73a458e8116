use Rattle.std.proofs.Common.{◌≡◌, ap, subst, ◌∙◌, IfOk}
use Rattle.spec_run.specs.Compiled.{compiled_instance}
use Rattle.bm_audit_listed.specs.Parts.{candidates_by}
use Rattle.bm_world.specs.Playing.{setup_in}
use Rattle.bm_audit.proofs.Listing.{candidates_in}
use Rattle.bm_audit.proofs.report.catalog_of.Goals as goal

pub returns : goal.returns
returns g c =
    let s = setup_in g.H.Hash32.digest_of c.args.world.now in
    subst (λ cs. IfOk c.of.result (λ catalog. catalog ≡ cs))
    (c.in_ok-all.ensures ∙ ap candidates_by c.compiled.ensures ∙ candidates_in s (compiled_instance s c.args.world.now.world c.args.contract))
    c.of.ensures
