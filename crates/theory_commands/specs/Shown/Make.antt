-- What `make` shows of the run that it makes from a number.
use Rattle.std.specs.Prelude.{◌≡◌, ℕ, ◌≤◌, List, [], ◌∷◌, length, None, Some}
use Rattle.std.specs.List.{sum_by}
use Rattle.spec_run.specs.Event.{opening_collision}
use Rattle.spec_run.specs.Setup.{Setup}
use Rattle.spec_run.specs.Statements.{IsRun, Simulates}
use Rattle.spec_run.specs.Translation.{translated, last_configuration, last_world}
use Rattle.spec_run.specs.declared.event.Event.{Event}
use Rattle.spec_text.specs.Generator.{generated_contract, generated_run}
use Rattle.spec_text.specs.PlanText.{counts_text, step_count}
use Rattle.spec_text.specs.Played.{live_outputs}
use Rattle.spec_tool.specs.Commands.{Printed, prints, most_size, setup_of}
use Rattle.theory_generator.specs.Generated as contracts
use Rattle.theory_generator.specs.GeneratedRuns as runs
use Rattle.theory_commands.specs.Files.{IfWhole}
use Rattle.theory_commands.specs.Shown.Counts.{Numbers, AreBelow, said_numbers}

-- the generated run with the generated contract
abbrev pub generated_setup : (List ℕ → List ℕ) → ℕ → ℕ → Setup
generated_setup hash number size = setup_of hash (generated_run number size) (generated_contract number size ∷ [])

-- how many events, steps, deposits and contracts this run has, and how much live value
abbrev pub run_numbers : Setup → List Event → Numbers
run_numbers s es = record {
  events = length es;
  steps = step_count (translated s es);
  deposits = length (last_configuration s es).deposits;
  contracts = length (last_configuration s es).active;
  value = sum_by (λ o. o.1) (live_outputs (last_world s es));
}

-- these are the counts, and the text is read as these numbers, each beside its word, if they are below 2^64
pub record Counts (s : Setup) (es : List Event) (printed : Printed) : Type 0 where
  pub answer : printed ≡ prints 0 (counts_text (length es) (step_count (translated s es)) (last_configuration s es) (last_world s es))
  pub read : AreBelow (run_numbers s es) → said_numbers printed.text ≡ Some (run_numbers s es)

pub record ShowsMade (hash : List ℕ → List ℕ) (number size : ℕ) (printed : Printed) : Type 0 where
  -- the contract is well-formed, and the text of the run is taken as that run
  pub contract : contracts.IsTaken number size
  pub run : runs.IsRunTaken number size
  -- the theorems on runs speak of it: its steps are a legal run of the calculus
  pub is_run : opening_collision (generated_setup hash number size) ≡ None → IsRun (generated_setup hash number size) (generated_run number size).events
  pub simulates : opening_collision (generated_setup hash number size) ≡ None
      → Simulates (generated_setup hash number size) (generated_run number size).events
  pub counts : IfWhole (generated_setup hash number size) (generated_run number size).events printed
      (Counts (generated_setup hash number size) (generated_run number size).events printed)

-- so it is for each size that the command takes
abbrev pub ShowsMake : (List ℕ → List ℕ) → ℕ → ℕ → Printed → Type 0
ShowsMake hash number size printed = size ≤ most_size → ShowsMade hash number size printed
