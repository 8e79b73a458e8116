-- What is claimed of valid run files and well-formed contracts.
use Rattle.std.specs.Prelude.{◌≡◌, ℕ, ◌≤◌, List, length, None, Ok}
use Rattle.spec_terms.specs.Advert.{Advert}
use Rattle.spec_run.specs.declared.event.Run.{Run}
use Rattle.spec_run.specs.Event.{opening_collision}
use Rattle.spec_run.specs.Conditions.{HashesBytes}
use Rattle.spec_run.specs.Statements.{IsRun}
use Rattle.spec_text.specs.Refusals.{run_of}
use Rattle.spec_tool.specs.Commands.{contracts_from, setup_of}

-- valid run files and well-formed contracts make a run of which the theorems on runs speak
abbrev pub ValidRunTheorem : Type 0
ValidRunTheorem = (hash : List ℕ → List ℕ) → HashesBytes hash
    → (run_file : List ℕ) (contract_files : List (List ℕ)) (run : Run) (contracts : List Advert)
    → run_of run_file ≡ Ok run → contracts_from 0 contract_files ≡ Ok contracts → length contract_files ≤ 16
    → opening_collision (setup_of hash run contracts) ≡ None → IsRun (setup_of hash run contracts) run.events
