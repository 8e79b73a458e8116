use Rattle.std.proofs.Common.{◌≡◌, drop}
use Rattle.spec_calculus.specs.Steps.{after_steps}
use Rattle.draw_rows.proofs.moments.apply_all.Given as goal

abbrev pub invariant-loop-step : goal.invariant-loop-step
invariant-loop-step l =
    after_steps l.config (drop l.step-index l.steps) ≡ after_steps l.initial.config l.steps
