-- What is claimed of the text of a longer run: it is read as that run.
use Rattle.std.specs.Prelude.{◌≡◌, ℕ, List, length, Some, None, Ok}
use Rattle.spec_run.specs.declared.event.Run.{Run}
use Rattle.spec_run.specs.Setup.{Setup}
use Rattle.spec_run.specs.Translation.{last_world, first_halt}
use Rattle.spec_run.specs.Statements.{IsRun}
use Rattle.spec_text.specs.RunText.{run_text}
use Rattle.spec_text.specs.Refusals.{run_of}
use Rattle.spec_tool.specs.declared.rule.Rule.{Rule}
use Rattle.spec_tool.specs.AutoText.{strategy_in, longer_run}
use Rattle.spec_tool.specs.Turns.{Progress, extended}

-- a run file that spells a run which isn't halted, and a strategy file that isn't refused beside it
pub record GoesWith (s : Setup) (text strategy : List ℕ) (run : Run) (rules : List Rule) : Type 0 where
  pub spells : run_of text ≡ Ok run
  pub header : s.header ≡ run.header
  pub is_run : IsRun s run.events
  pub whole : first_halt s run.events ≡ None
  pub strategy_spells : strategy_in (length text) run.header run.events (Some strategy) ≡ Ok rules

-- The text of the longer run is read as it: no limit of a run file is exceeded, neither on bytes, lines or events
-- nor on the numbers of outputs.
abbrev pub LongerRunsAreSpelled : Type 0
LongerRunsAreSpelled = (s : Setup) (text strategy : List ℕ) (run : Run) (rules : List Rule) (p : Progress)
    → GoesWith s text strategy run rules → extended s (last_world s run.events) rules ≡ Ok p
    → run_of (run_text (longer_run run.header run.events p)) ≡ Ok (longer_run run.header run.events p)
