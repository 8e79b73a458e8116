-- What is claimed of the text that `auto` prints: it spells a run that goes on with that of the run file.
use Rattle.std.specs.Prelude.{◌≡◌, ℕ, List, [], ◌∷◌, ◌++◌, Some, Ok}
use Rattle.spec_run.specs.declared.event.Event.{Event}
use Rattle.spec_run.specs.declared.event.Run.{Run}
use Rattle.spec_run.specs.Conditions.{HashesBytes}
use Rattle.spec_text.specs.Refusals.{run_of}
use Rattle.spec_tool.specs.Answers.{text_answer}
use Rattle.spec_tool.specs.Commands.{auto, prints}

-- the printed text spells a run with the header of the run file and its events, and more behind these
pub record IsLonger (text printed : List ℕ) : Type 0 where
  pub run : Run
  pub spells : run_of text ≡ Ok run
  pub longer : Run
  pub read : run_of printed ≡ Ok longer
  pub header : longer.header ≡ run.header
  pub more : List Event
  pub events : longer.events ≡ run.events ++ more

-- what `auto` prints of three files with the status 0 is such a text
abbrev pub PrintedIsLonger : Type 0
PrintedIsLonger = (hash : List ℕ → List ℕ) → HashesBytes hash
    → (run_name contract_name strategy_name text contract strategy printed : List ℕ)
    → text_answer hash (auto run_name contract_name strategy_name) (Some text ∷ Some contract ∷ Some strategy ∷ []) ≡ prints 0 printed
    → IsLonger text printed
