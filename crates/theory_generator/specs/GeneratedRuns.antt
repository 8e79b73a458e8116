-- What is claimed of the runs that are made from a number.
use Rattle.std.specs.Prelude.{◌≡◌, ℕ, ◌+◌, ◌*◌, ◌≤◌, List, [], ◌∷◌, length, None, Ok}
use Rattle.spec_run.specs.Event.{opening_collision}
use Rattle.spec_run.specs.Conditions.{HashesBytes}
use Rattle.spec_run.specs.Statements.{IsRun}
use Rattle.spec_text.specs.Canonical.{advert_text}
use Rattle.spec_text.specs.Generator.{generated_contract, generated_run}
use Rattle.spec_text.specs.Played.{play_text}
use Rattle.spec_text.specs.Refusals.{run_of}
use Rattle.spec_text.specs.RunText.{run_text}
use Rattle.spec_tool.specs.Commands.{most_size, contracts_from, setup_of, run_answer, play_answer}

-- the text of the generated run is valid and spells it; each of its stages has 302 events
pub record IsRunTaken (number size : ℕ) : Type 0 where
  pub taken : run_of (run_text (generated_run number size)) ≡ Ok (generated_run number size)
  pub count : length (generated_run number size).events ≡ 302 * size + 9

-- so it is for every number and each size that the command takes
abbrev pub GeneratedRunsTaken : Type 0
GeneratedRunsTaken = (number size : ℕ) → size ≤ most_size → IsRunTaken number size

-- with the generated contract it is a run of which the theorems on runs speak, where the strings that it begins with don't collide
abbrev pub GeneratedRunsPlay : Type 0
GeneratedRunsPlay = (hash : List ℕ → List ℕ) → HashesBytes hash → (number size : ℕ) → size ≤ most_size
    → opening_collision (setup_of hash (generated_run number size) (generated_contract number size ∷ [])) ≡ None
    → IsRun (setup_of hash (generated_run number size) (generated_contract number size ∷ [])) (generated_run number size).events

-- what is played of the canonical texts of both is that very run, the one that `make` plays
pub record ArePlayed (hash : List ℕ → List ℕ) (number size : ℕ) : Type 0 where
  pub contracts : contracts_from 0 (advert_text (generated_contract number size) ∷ []) ≡ Ok (generated_contract number size ∷ [])
  pub played : play_answer hash (run_text (generated_run number size)) (advert_text (generated_contract number size) ∷ [])
      ≡ run_answer play_text (setup_of hash (generated_run number size) (generated_contract number size ∷ [])) (generated_run number size).events

abbrev pub GeneratedTextsPlayed : Type 0
GeneratedTextsPlayed = (hash : List ℕ → List ℕ) (number size : ℕ) → size ≤ most_size → ArePlayed hash number size
