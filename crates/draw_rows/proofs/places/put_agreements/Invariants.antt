use Rattle.std.proofs.Common.{◌≡◌, ◌++◌, drop}
use Rattle.spec_page.specs.Moments.{agreements_by}
use Rattle.draw_rows.proofs.places.put_agreements.Given as goal

abbrev pub invariant-loop-step : goal.invariant-loop-step
invariant-loop-step l =
    l.agreements.items ++ agreements_by l.places (drop l.step-index l.steps) ≡ l.initial.agreements.items ++ agreements_by l.places l.steps
