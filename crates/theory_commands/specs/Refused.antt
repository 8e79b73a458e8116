-- What is said of a run file and its contract files, by what they hold: the first of them that is refused, with its place and why.
use Rattle.std.specs.Prelude.{◌≡◌, ℕ, List, ◌∷◌, ◌++◌, ◌↔◌, length, true, false, Ok, is_err}
use Rattle.spec_terms.specs.Advert.{Advert}
use Rattle.spec_run.specs.declared.event.Event.{Event}
use Rattle.spec_run.specs.declared.event.Run.{Run}
use Rattle.spec_run.specs.Setup.{Setup}
use Rattle.spec_tool.specs.Answers.{contract_in, contracts_in, run_in}
use Rattle.spec_tool.specs.Commands.{Printed, contract_refused, both_judged}
use Rattle.spec_tool.specs.Reads.{Text}
use Rattle.theory_commands.specs.Causes.{HoldAll, IsOneRefused}
use Rattle.theory_commands.specs.ContractFiles.{HoldsContract, Refusal, IsRefusedContract, refusal_text}
use Rattle.theory_commands.specs.Files.{Judges, ShowsRun}
use Rattle.theory_commands.specs.RunFiles.{HoldsRun, RunRefusal, IsRefusedRun}

-- ---- the first that is refused

-- the file has the number k among these, counted from 0, and is refused for this; those before it hold contracts
pub record FirstRefused (texts : List Text) (k : ℕ) (why : Refusal) : Type 0 where
  pub before : List Text
  pub text : Text
  pub after : List Text
  pub in_order : texts ≡ before ++ text ∷ after
  pub number : k ≡ length before
  pub adverts : List Advert
  pub held : HoldAll before adverts
  pub refused : IsRefusedContract text why

-- the same by its number and the reason together
abbrev pub IsFirstRefused : List Text → ℕ × Refusal → Type 0
IsFirstRefused texts refusal = FirstRefused texts (refusal.0) (refusal.1)

-- ---- what is shown

-- of contract files in order: this of the contracts that they hold, or the first that is refused, by its number, with why
abbrev pub ShowsContracts : List Text → Printed → (List Advert → Type 0) → Type 0
ShowsContracts texts printed shown =
    Judges (HoldAll texts) (IsFirstRefused texts) shown (λ r. printed ≡ contract_refused (r.0) (refusal_text (r.1)))

-- of a run file, which is judged first, and contract files: this of the run with its contracts
abbrev pub ShowsJudged : Text → List Text → Printed → (Run → List Advert → Type 0) → Type 0
ShowsJudged run_text contract_texts printed shown =
    ShowsRun run_text printed (λ run. ShowsContracts contract_texts printed (shown run))

-- a file that is refused is said, and nothing of others
abbrev pub SaysRefusals : Text → List Text → Printed → Type 0
SaysRefusals run_text contract_texts printed = ShowsJudged run_text contract_texts printed (λ run adverts. Unit {0})

-- ---- what is claimed

-- of every file, and of every program that takes a run file and contract files
pub record FilesAreJudged : Type 0 where
  -- a file is refused exactly for a fault that it has, and taken exactly for what it holds
  pub run_refused : (text : Text) → (is_err (run_in text) ≡ true) ↔ ((why : RunRefusal) × IsRefusedRun text why)
  pub run_taken : (text : Text) → (is_err (run_in text) ≡ false) ↔ ((run : Run) × HoldsRun text run)
  pub contract_refused : (text : Text) → (is_err (contract_in text) ≡ true) ↔ ((why : Refusal) × IsRefusedContract text why)
  pub contract_taken : (text : Text) → (is_err (contract_in text) ≡ false) ↔ ((advert : Advert) × HoldsContract text advert)
  pub contracts_refused : (texts : List Text) → (is_err (contracts_in 0 texts) ≡ true) ↔ IsOneRefused texts
  pub contracts_taken : (texts : List Text) (adverts : List Advert) → (contracts_in 0 texts ≡ Ok adverts) ↔ HoldAll texts adverts
  -- whatever is answered to a run that is played, the first file that is refused is answered with its place and why
  pub said : (answer : Setup → List Event → Printed) (hash : List ℕ → List ℕ) (run_text : Text) (contract_texts : List Text)
      → SaysRefusals run_text contract_texts (both_judged answer hash (run_in run_text) (contracts_in 0 contract_texts))
