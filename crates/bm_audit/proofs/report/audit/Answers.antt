use Rattle.std.proofs.Common.{refl, sym, ap, ◌∙◌, option_map}
use Rattle.std.proofs.lemmas.Result.{err_from_is_err_and}
use Rattle.bm_world.specs.Playing.{setup_in}
use Rattle.bm_world.specs.declared.halt.Halt.TheVariants.{Memory}
use Rattle.bm_audit_listed.specs.Parts.{absent_among}
use Rattle.bm_world_heard.proofs.Hearing.{hears_none, halted_before, outstanding}
use Rattle.bm_audit.proofs.Listing.{audited_by, follows_from}
use Rattle.bm_audit.proofs.report.audit.Goals as goal

pub returns-in-Some-clause-stopped : goal.returns-in-Some-clause-stopped
returns-in-Some-clause-stopped g c =
    halted_before g.H.Hash32.digest_of c.args.world.now _ _ _ (sym c.halt.ensures ∙ ap (option_map (λ h. h.now)) c.in-Some.is) c.again.ensures

pub returns-in_err-catalog-clause-stopped : goal.returns-in_err-catalog-clause-stopped
returns-in_err-catalog-clause-stopped g c =
    let p = err_from_is_err_and c.from_residual.result c.from_residual.ensures.1 in
    rw (p.1, p.2) (outstanding g.H.Hash32.digest_of c.args.world.now c.args.world.now _ _ Memory (hears_none g.H.Hash32.digest_of c.args.world.now) refl)

pub returns-in_err-missing-clause-stopped : goal.returns-in_err-missing-clause-stopped
returns-in_err-missing-clause-stopped g c =
    let p = err_from_is_err_and c.from_residual-in_err-missing.result c.from_residual-in_err-missing.ensures.1 in
    rw (p.1, p.2) (outstanding g.H.Hash32.digest_of c.args.world.now c.args.world.now _ _ Memory (hears_none g.H.Hash32.digest_of c.args.world.now) refl)

pub returns-clause-stopped : goal.returns-clause-stopped
returns-clause-stopped g c =
    outstanding g.H.Hash32.digest_of c.args.world.now c.findings_of.new.world _ _ Memory c.in_ok-findings.ensures.found.calm.hears refl

pub returns-in-Ok-clause-audited : goal.returns-in-Ok-clause-audited
returns-in-Ok-clause-audited g c =
    audited_by g.H.Hash32.digest_of c.args.world.now c.findings_of.new.world c.in_ok-catalog.catalog c.args.text.now c.args.contract
    c.in_ok-findings.findings c.in-Ok.absent c.in_ok-missing.missing (sym c.halt.ensures ∙ ap (option_map (λ h. h.now)) c.in_default.is)
    c.in_ok-catalog.ensures c.in_ok-findings.ensures.found
    (c.in-Ok.ensures ∙ (λ i. absent_among (c.candidates.ensures i) (c.as_slice.ensures i))) c.in_ok-missing.ensures

pub returns-in-Ok-clause-follows : goal.returns-in-Ok-clause-follows
returns-in-Ok-clause-follows g c =
    follows_from (setup_in g.H.Hash32.digest_of c.args.world.now) c.args.world.now.world c.args.contract c.args.text.now _
    c.audits_find_all.ensures c.nothing_lacks.ensures (returns-in-Ok-clause-audited g c).found
