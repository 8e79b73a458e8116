-- What is replied of a run that goes on by the rules of a strategy.
use Rattle.std.specs.Prelude.{◌≡◌, ℕ, List, length, None, Ok}
use Rattle.spec_run.specs.declared.event.Run.{Run}
use Rattle.spec_run.specs.Setup.{Setup}
use Rattle.spec_run.specs.Translation.{last_world, first_halt}
use Rattle.spec_run.specs.Statements.{IsRun}
use Rattle.spec_text.specs.RunText.{run_text}
use Rattle.spec_text.specs.Refusals.{run_of}
use Rattle.spec_tool.specs.declared.rule.Rule.{Rule}
use Rattle.spec_tool.specs.AutoText.{strategy_in, longer_run}
use Rattle.spec_tool.specs.Reads.{Text}
use Rattle.spec_tool.specs.Turns.{Progress, extended}
use Rattle.theory_auto.specs.Continued.{GoesOnBy}
use Rattle.theory_auto.specs.OwnRules.{KeepsToRules}
use Rattle.spec_tool.specs.declared.reply.Reply.{Reply}

-- the text is that of the run with the events of these rules behind its own
pub record Continues (s : Setup) (run : Run) (rules : List Rule) (text : List ℕ) : Type 0 where
  pub is_run : IsRun s run.events
  pub whole : first_halt s run.events ≡ None
  pub progress : Progress
  pub comes : extended s (last_world s run.events) rules ≡ Ok progress
  pub told : text ≡ run_text (longer_run run.header run.events progress)
  -- the longer run does or accepts the events, each a rule's and no rule twice, and no rule that is left is enabled at its end
  pub goes_on : GoesOnBy s run.events rules progress
  -- it is one of which the theorems on runs speak, and an honest party's deposits go only by what it did before or has a rule for
  pub keeps : KeepsToRules s run.events rules progress

-- so is a text with the status 0
abbrev pub ContinuesIfWhole : Setup → Run → List Rule → Reply → Type 0
ContinuesIfWhole s run rules reply = reply.status ≡ 0 → Continues s run rules reply.text

-- the file of the strategy, beside a run file of so many bytes, has these rules; the text is that of the run that goes on by them, and
-- is read as that run
pub record ContinuesFiles (s : Setup) (run : Run) (run_bytes : ℕ) (strategy : Text) (text : List ℕ) : Type 0 where
  pub rules : List Rule
  pub spelled : strategy_in run_bytes run.header run.events strategy ≡ Ok rules
  pub continues : Continues s run rules text
  pub read : (run_file : List ℕ) → run_of run_file ≡ Ok run → length run_file ≡ run_bytes
      → run_of text ≡ Ok (longer_run run.header run.events continues.progress)

-- so is a text with the status 0
abbrev pub GoesOnBeside : Setup → Run → ℕ → Text → Reply → Type 0
GoesOnBeside s run run_bytes strategy reply = reply.status ≡ 0 → ContinuesFiles s run run_bytes strategy reply.text
