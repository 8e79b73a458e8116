use Rattle.bm_keys.proofs.Steps.{one_more, no_path}
use Rattle.bm_keys.proofs.reading.path_at.Goals as goal

pub returns-in_default-step_at-clause-bad : goal.returns-in_default-step_at-clause-bad
returns-in_default-step_at-clause-bad c =
    λ _. no_path c.args.text.now c.loop-after.rest.now c.loop-after.steps.items c.loop-after.invariant c.in_default.ensures.none
    c.in_default-step_at.ensures.none

pub loop-after-preserved : goal.loop-after-preserved
loop-after-preserved c = one_more _ _ _ _ _ _ c.loop-after.invariant c.in-Some-step_at.ensures.some c.in_ok-push.ensures.items
