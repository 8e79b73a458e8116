use Rattle.std.proofs.Common.{sym, ◌∙◌}
use Rattle.std.proofs.lemmas.Result.{err_from_is_err_and}
use Rattle.bm_audit.proofs.Composed.{begin_with, midway_next, stopped_midway, ends_empty}
use Rattle.bm_audit.proofs.findings.findings_of.Goals as goal

pub loop-rest-init : goal.loop-rest-init
loop-rest-init g c =
    begin_with g.H.Hash32.digest_of c.args.world.now c.args.catalog.now c.args.text.now c.new-findings.result c.new-findings.ensures

pub loop-rest-preserved : goal.loop-rest-preserved
loop-rest-preserved g c =
    let cut = c.first_line.result in
    midway_next g.H.Hash32.digest_of c.args.world.now c.loop-rest.world c.take_line.new.world c.args.catalog.now c.args.text.now
    c.loop-rest.rest.now cut.0.now cut.1.now c.loop-rest.line c.loop-rest.findings c.loop-rest.invariant c.first_line.ensures.line
    c.take_line.new.findings _ c.in_ok-line.ensures.next c.in_ok-line.ensures.took

pub returns-in_err-line-clause-stopped : goal.returns-in_err-line-clause-stopped
returns-in_err-line-clause-stopped g c =
    let cut = c.first_line.result in
    let p = err_from_is_err_and c.from_residual.result c.from_residual.ensures.1 in
    rw (p.1, p.2) (stopped_midway g.H.Hash32.digest_of c.args.world.now c.loop-rest.world c.take_line.new.world c.args.catalog.now c.args.text.now
    c.loop-rest.rest.now cut.0.now cut.1.now c.loop-rest.line c.loop-rest.findings c.loop-rest.invariant c.first_line.ensures.line _
    c.in_err-line.ensures.stopped)

pub returns-clause-found : goal.returns-clause-found
returns-clause-found g c =
    ends_empty g.H.Hash32.digest_of c.args.world.now c.loop-rest.world c.args.catalog.now c.args.text.now c.loop-rest.rest.now c.loop-rest.line
    c.loop-rest.findings (sym c.is_empty.ensures ∙ c.loop-rest-test.false) c.loop-rest.invariant
