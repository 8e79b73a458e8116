-- What is claimed of the runs that run files spell.
use Rattle.std.specs.Prelude.{◌≡◌, ℕ, List, Ok}
use Rattle.std.specs.List.{AllByRecursion}
use Rattle.spec_run.specs.Setup.{Setup}
use Rattle.spec_run.specs.Conditions.{IsHeader, IsEvent}
use Rattle.spec_run.specs.declared.event.Run.{Run}
use Rattle.spec_text.specs.Refusals.{run_of}

-- the header and the events of a run are those of which the theorems on runs speak
pub record IsReadRun (run : Run) : Type 0 where
  pub header : IsHeader run.header
  pub events : (s : Setup) → s.header ≡ run.header → AllByRecursion (IsEvent s) run.events

-- a run file that isn't refused spells such a run
abbrev pub RunFileTheorem : Type 0
RunFileTheorem = (text : List ℕ) (run : Run) → run_of text ≡ Ok run → IsReadRun run
