-- The counts that are printed of a run that isn't halted.
use Rattle.std.specs.Prelude.{ℕ, List, length}
use Rattle.spec_run.specs.declared.event.Event.{Event}
use Rattle.spec_run.specs.Setup.{Setup}
use Rattle.spec_run.specs.Translation.{translated, last_configuration, last_world}
use Rattle.spec_text.specs.PlanText.{counts_text, step_count}

abbrev pub run_counts : Setup → List Event → List ℕ
run_counts s es = counts_text (length es) (step_count (translated s es)) (last_configuration s es) (last_world s es)
