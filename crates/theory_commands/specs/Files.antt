-- What a command shows of its files: each is taken for what it holds, or refused for a reason that is printed.
use Rattle.std.specs.Prelude.{◌≡◌, ℕ, List, [], ◌∷◌, ◌⊎◌}
use Rattle.spec_terms.specs.Advert.{Advert}
use Rattle.spec_run.specs.declared.event.Event.{Event}
use Rattle.spec_run.specs.declared.event.Run.{Run}
use Rattle.spec_run.specs.Setup.{Setup}
use Rattle.spec_text.specs.Played.{ending}
use Rattle.spec_tool.specs.Commands.{Printed, run_refused, contract_refused, setup_of}
use Rattle.spec_tool.specs.Reads.{Text, text_at}
use Rattle.theory_tool.specs.Auto.{HaltIsAnswered}
use Rattle.theory_tool.specs.Runs.{IsUnhalted}
use Rattle.theory_commands.specs.ContractFiles.{HoldsContract, IsRefusedContract, refusal_text}
use Rattle.theory_commands.specs.RunFiles.{HoldsRun, IsRefusedRun, run_refusal_text}

-- Of a file that holds something this is shown, and of one that is refused that; each is one or the other.
pub record Judges {A R : Type 0} (holds : A → Type 0) (refuses : R → Type 0) (shown : A → Type 0) (said : R → Type 0) : Type 0 where
  pub taken : (a : A) → holds a → shown a
  pub refused : (r : R) → refuses r → said r
  pub either : ((a : A) × holds a) ⊎ ((r : R) × refuses r)

-- of a contract file
abbrev pub ShowsContract : Text → Printed → (Advert → Type 0) → Type 0
ShowsContract text printed shown =
    Judges (HoldsContract text) (IsRefusedContract text) shown (λ r. printed ≡ contract_refused 0 (refusal_text r))

-- of a run file
abbrev pub ShowsRun : Text → Printed → (Run → Type 0) → Type 0
ShowsRun text printed shown = Judges (HoldsRun text) (IsRefusedRun text) shown (λ r. printed ≡ run_refused (run_refusal_text r))

-- of a run file, which is judged first, and a contract file: what is shown of the run with the contract
abbrev pub ShowsPlayed : (List ℕ → List ℕ) → List Text → Printed → (Setup → List Event → Type 0) → Type 0
ShowsPlayed hash texts printed shown =
    ShowsRun (text_at texts 0) printed (λ run.
    ShowsContract (text_at texts 1) printed (λ advert. shown (setup_of hash run (advert ∷ [])) run.events))

-- of a run: this where nothing halts it, and else the line of its halt alone
pub record IfWhole (s : Setup) (es : List Event) (printed : Printed) (shown : Type 0) : Type 0 where
  pub whole : IsUnhalted s es → shown
  pub halted : HaltIsAnswered (ending s es) printed
