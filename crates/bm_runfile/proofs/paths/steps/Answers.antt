use Rattle.std.proofs.Common.{sym, ◌∙◌}
use Rattle.std.proofs.lemmas.Result.{err_from_is_err_and}
use Rattle.bm_runfile.proofs.Chains.{chain_stops, chain_goes}
use Rattle.bm_runfile.proofs.StepChains.{steps_chain}
use Rattle.bm_runfile.proofs.paths.steps.Goals as goal

pub returns-in_err-step : goal.returns-in_err-step
returns-in_err-step c =
    let p = err_from_is_err_and c.from_residual.result c.from_residual.ensures.1 in
    rw (p.1, p.2) (chain_stops steps_chain c.in_err-step.field-0.0 c.loop-rest.list.items c.loop-rest.rest.now _
    (sym c.is_empty.ensures ∙ c.loop-rest-test.true) c.in_err-step.ensures.step c.loop-rest.invariant)

pub loop-rest-preserved : goal.loop-rest-preserved
loop-rest-preserved c =
    rw c.in_ok-push.ensures.items (chain_goes steps_chain c.loop-rest.list.items c.loop-rest.rest.now c.in_ok-step.more.now
    c.in_ok-step.step _ (sym c.is_empty.ensures ∙ c.loop-rest-test.true) c.in_ok-step.ensures.step c.loop-rest.invariant)
