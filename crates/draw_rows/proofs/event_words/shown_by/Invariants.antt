use Rattle.std.proofs.Common.{◌≡◌, drop}
use Rattle.spec_page.specs.EventWords.{shown_by}
use Rattle.draw_rows.proofs.event_words.shown_by.Given as goal

abbrev pub invariant-loop-step : goal.invariant-loop-step
invariant-loop-step l =
    shown_by (drop l.step-index l.steps) ≡ shown_by l.steps
