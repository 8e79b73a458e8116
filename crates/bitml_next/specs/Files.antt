-- What the files of the program that says what comes next hold, token by token and line by line: by which of it each status comes, and
-- what is said of a file that is refused.
use Rattle.std.specs.Prelude.{◌≡◌, ℕ, List, [], ◌∷◌, ◌↔◌}
use Rattle.spec_terms.specs.Advert.{Advert}
use Rattle.spec_tool.specs.Commands.{Printed}
use Rattle.spec_tool.specs.Reads.{Text}
use Rattle.theory_tool.specs.Runs.{IsGuessing}
use Rattle.theory_tool.specs.Statuses.{OfRun}
use Rattle.theory_commands.specs.Causes.{RunsHeld, RefusedAfter}
use Rattle.theory_commands.specs.ContractFiles.{HoldsContract, Refusal, IsRefusedContract}
use Rattle.theory_commands.specs.Files.{ShowsContract}
use Rattle.theory_commands.specs.Refused as files
use Rattle.theory_commands.specs.RunFiles.{RunRefusal, IsRefusedRun}
use Rattle.bitml_next.specs.Causes.{Collision, NoHalt}

-- ---- causes; one file is a contract, of more the first is a run

-- the run file is refused
abbrev pub RunRefused : List Text → Type 0
RunRefused [] = ⊥
RunRefused (contract ∷ []) = ⊥
RunRefused (run ∷ contract ∷ contracts) = (why : RunRefusal) × IsRefusedRun run why

-- a contract file is, and no run file
abbrev pub ContractRefused : List Text → Type 0
ContractRefused [] = ⊥
ContractRefused (contract ∷ []) = (why : Refusal) × IsRefusedContract contract why
ContractRefused (run ∷ contract ∷ contracts) = RefusedAfter run (contract ∷ contracts)

-- the files hold a run and contracts of which this is so
abbrev pub PlaysHeld : (List ℕ → List ℕ) → OfRun → List Text → Type 0
PlaysHeld hash claim [] = ⊥
PlaysHeld hash claim (contract ∷ []) = ⊥
PlaysHeld hash claim (run ∷ contract ∷ contracts) = RunsHeld hash claim run (contract ∷ contracts)

-- every file holds what it should, and nothing halts
abbrev pub AllIsHeld : (List ℕ → List ℕ) → List Text → Type 0
AllIsHeld hash [] = ⊥
AllIsHeld hash (contract ∷ []) = (advert : Advert) × HoldsContract contract advert
AllIsHeld hash (run ∷ contract ∷ contracts) = RunsHeld hash NoHalt run (contract ∷ contracts)

-- each status comes exactly by its cause
pub record HasCausesInFiles (hash : List ℕ → List ℕ) (texts : List Text) (status : ℕ) : Type 0 where
  pub whole : (status ≡ 0) ↔ AllIsHeld hash texts
  pub contract_refused : (status ≡ 1) ↔ ContractRefused texts
  pub run_refused : (status ≡ 6) ↔ RunRefused texts
  pub guessed : (status ≡ 7) ↔ PlaysHeld hash IsGuessing texts
  pub collided : (status ≡ 8) ↔ PlaysHeld hash Collision texts

-- ---- what is said

-- a file that is refused is said, the first of them, with its place and why
abbrev pub SaysRefusals : List Text → Printed → Type 0
SaysRefusals [] printed = Unit {0}
SaysRefusals (contract ∷ []) printed = ShowsContract contract printed (λ advert. Unit {0})
SaysRefusals (run ∷ contract ∷ contracts) printed = files.SaysRefusals run (contract ∷ contracts) printed
