-- What is claimed of the text of a played run: it is read as what it shows, so it can't leave anything out.
use Rattle.std.specs.Prelude.{◌≡◌, ◌≤◌, ℕ, List, length, Some, Ok}
use Rattle.spec_terms.specs.Advert.{Advert}
use Rattle.spec_run.specs.declared.event.Event.{Event}
use Rattle.spec_run.specs.declared.event.Run.{Run}
use Rattle.spec_run.specs.Setup.{Setup}
use Rattle.spec_run.specs.Conditions.{HashesBytes}
use Rattle.spec_text.specs.declared.entry.Entry.{Entry}
use Rattle.spec_text.specs.PlayText.{Ending, report_text}
use Rattle.spec_text.specs.Played.{entries, ending}
use Rattle.spec_text.specs.Refusals.{run_of}
use Rattle.spec_tool.specs.Commands.{contracts_from, setup_of, play_answer}
use Rattle.theory_play_text.specs.Report.{Report, shown, report_of}
use Rattle.theory_play_text.specs.Printable.{IsPrintable}

-- ---- any lists

-- what is printable is read from the text that is printed of it
abbrev pub ReportsReadBack : Type 0
ReportsReadBack = (parties : List (List ℕ)) (deposits : List (List ℕ × ℕ)) (entries : List Entry) (end : Ending)
    → IsPrintable parties deposits entries end
    → report_of parties (report_text deposits entries end) ≡ Some (shown deposits entries end)

-- two runs that print the same show the same
abbrev pub SameTextsShowTheSame : Type 0
SameTextsShowTheSame = (parties : List (List ℕ)) (deposits others : List (List ℕ × ℕ)) (entries later : List Entry) (end last : Ending)
    → IsPrintable parties deposits entries end → IsPrintable parties others later last
    → report_text deposits entries end ≡ report_text others later last
    → shown deposits entries end ≡ shown others later last

-- ---- runs

-- what a run shows: its opening deposits, its events with their outcomes and steps, and its end
abbrev pub shown_run : Setup → List Event → Report
shown_run s es = shown s.header.deposits (entries s es) (ending s es)

-- What `play` prints of a valid run file and up to 16 well-formed contracts is read, for those whom the run file declares, as what
-- the run shows: as all of it, whatever the run is and however it ends.
abbrev pub PlaysAreRead : Type 0
PlaysAreRead = (hash : List ℕ → List ℕ) → HashesBytes hash
    → (run_file : List ℕ) (contract_files : List (List ℕ)) (run : Run) (contracts : List Advert)
    → run_of run_file ≡ Ok run → contracts_from 0 contract_files ≡ Ok contracts → length contract_files ≤ 16
    → report_of run.header.parties (play_answer hash run_file contract_files).text
    ≡ Some (shown_run (setup_of hash run contracts) run.events)

-- So two runs of which the same is printed are the same in all that is printed, whoever takes part in them.
abbrev pub SamePlaysShowTheSame : Type 0
SamePlaysShowTheSame = (hash : List ℕ → List ℕ) → HashesBytes hash
    → (run_file other_file : List ℕ) (contract_files other_files : List (List ℕ)) (run other : Run) (contracts others : List Advert)
    → run_of run_file ≡ Ok run → contracts_from 0 contract_files ≡ Ok contracts → length contract_files ≤ 16
    → run_of other_file ≡ Ok other → contracts_from 0 other_files ≡ Ok others → length other_files ≤ 16
    → (play_answer hash run_file contract_files).text ≡ (play_answer hash other_file other_files).text
    → shown_run (setup_of hash run contracts) run.events ≡ shown_run (setup_of hash other others) other.events
