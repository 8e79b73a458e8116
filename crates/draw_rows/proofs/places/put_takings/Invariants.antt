use Rattle.std.proofs.Common.{◌≡◌, ◌++◌, drop}
use Rattle.spec_page.specs.Moments.{moves_by}
use Rattle.draw_rows.proofs.places.put_takings.Given as goal

abbrev pub invariant-loop-step : goal.invariant-loop-step
invariant-loop-step l =
    l.takings.items ++ moves_by l.places (drop l.step-index l.steps) ≡ l.initial.takings.items ++ moves_by l.places l.steps
