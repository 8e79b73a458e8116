-- What each command shows, from the texts of its files to what it prints.
use Rattle.std.specs.Prelude.{◌≡◌, ℕ, ◌≤◌, List, drop, true, Some}
use Rattle.spec_run.specs.Conditions.{HashesBytes}
use Rattle.spec_tool.specs.Answers.{text_answer}
use Rattle.spec_tool.specs.Commands.{Command, check, play, plan, make, psbt_of, psbt_shown, psbt_joined, weigh, audit, auto, Printed}
use Rattle.spec_tool.specs.Commands.{most_size, command_of, files_of}
use Rattle.spec_tool.specs.Reads.{Text, text_at, all_fit}
use Rattle.theory_commands.specs.Files.{ShowsPlayed}
use Rattle.theory_commands.specs.Refused.{SaysRefusals}
use Rattle.theory_commands.specs.Shown.Audit.{ShowsAudit}
use Rattle.theory_commands.specs.Shown.Auto.{ShowsAuto}
use Rattle.theory_commands.specs.Shown.Check.{ShowsCheck}
use Rattle.theory_commands.specs.Shown.Make.{ShowsMake}
use Rattle.theory_commands.specs.Shown.Plan.{ShowsPlan, ShowsWeights}
use Rattle.theory_commands.specs.Shown.Psbt.{ShowsSigned}
use Rattle.theory_commands.specs.Shown.PsbtFiles.{ShowsFile, ShowsFiles}

-- of a run and contracts that `play` takes its headline says more
abbrev pub ShowsCommand : (List ℕ → List ℕ) → Command → List Text → Printed → Type 0
ShowsCommand hash (check contract) texts printed = ShowsCheck (text_at texts 0) printed
ShowsCommand hash (play run contracts) texts printed = SaysRefusals (text_at texts 0) (drop 1 texts) printed
ShowsCommand hash (plan run contract) texts printed = ShowsPlayed hash texts printed (λ s es. ShowsPlan s es printed)
ShowsCommand hash (make number size) texts printed = ShowsMake hash number size printed
ShowsCommand hash (psbt_of run contract which) texts printed = ShowsPlayed hash texts printed (λ s es. ShowsSigned which s es printed)
ShowsCommand hash (psbt_shown file) texts printed = ShowsFile (text_at texts 0) printed
ShowsCommand hash (psbt_joined first second) texts printed = ShowsFiles (text_at texts 0) (text_at texts 1) printed
ShowsCommand hash (weigh run contract) texts printed = ShowsPlayed hash texts printed (λ s es. ShowsWeights s es printed)
ShowsCommand hash (audit run contract file) texts printed =
    ShowsPlayed hash texts printed (λ s es. ShowsAudit (text_at texts 2) s es printed)
ShowsCommand hash (auto run contract strategy) texts printed =
    ShowsPlayed hash texts printed (λ s es. ShowsAuto (text_at texts 0) (text_at texts 2) s es printed)

-- what a command answers to the texts of its files, none of more bytes than were asked for, shows that, for every hash of 32 bytes
abbrev pub CommandsShow : Type 0
CommandsShow = (hash : List ℕ → List ℕ) → HashesBytes hash → (command : Command) (texts : List Text)
    → all_fit (files_of command) texts ≡ true → ShowsCommand hash command texts (text_answer hash command texts)

-- the size of `make` in words that are a command is one that it takes
abbrev pub GeneratedSizesAreTaken : Type 0
GeneratedSizesAreTaken = (words : List (List ℕ)) (number size : ℕ) → command_of words ≡ Some (make number size) → size ≤ most_size
