-- Why the texts of files are answered with each status, and what is said of a file that is refused: one is a contract, of more the first
-- is a run. What a file holds, and why it is refused, is said of its lines and tokens, and not by how it is read.
use Rattle.std.specs.Prelude.{◌≡◌, ℕ, List, [], ◌∷◌, ◌↔◌}
use Rattle.spec_terms.specs.Advert.{Advert}
use Rattle.spec_tool.specs.Commands.{Printed}
use Rattle.spec_tool.specs.Reads.{Text}
use Rattle.theory_tool.specs.Runs.{IsGuessing, IsColliding, IsUnhalted}
use Rattle.theory_tool.specs.Statuses.{OfRun}
use Rattle.theory_commands.specs.Causes.{RefusedAfter, RunsHeld}
use Rattle.theory_commands.specs.ContractFiles.{HoldsContract, Refusal, IsRefusedContract}
use Rattle.theory_commands.specs.Files.{ShowsContract}
use Rattle.theory_commands.specs.Refused as files
use Rattle.theory_commands.specs.RunFiles.{RunRefusal, IsRefusedRun}

-- of 6: the run file is refused
abbrev pub IsRunRefused : List Text → Type 0
IsRunRefused [] = ⊥
IsRunRefused (contract ∷ []) = ⊥
IsRunRefused (run ∷ contract ∷ contracts) = (why : RunRefusal) × IsRefusedRun run why

-- of 1: a contract file is refused, and no run file is
abbrev pub IsContractRefused : List Text → Type 0
IsContractRefused [] = ⊥
IsContractRefused (contract ∷ []) = (why : Refusal) × IsRefusedContract contract why
IsContractRefused (run ∷ contract ∷ contracts) = RefusedAfter run (contract ∷ contracts)

-- the files hold a run and contracts, and this is so of the run
abbrev pub Plays : (List ℕ → List ℕ) → OfRun → List Text → Type 0
Plays hash claim [] = ⊥
Plays hash claim (contract ∷ []) = ⊥
Plays hash claim (run ∷ contract ∷ contracts) = RunsHeld hash claim run (contract ∷ contracts)

-- of 0: the files hold what they should, and nothing halts
abbrev pub AllIsWell : (List ℕ → List ℕ) → List Text → Type 0
AllIsWell hash [] = ⊥
AllIsWell hash (contract ∷ []) = (advert : Advert) × HoldsContract contract advert
AllIsWell hash (run ∷ contract ∷ contracts) = RunsHeld hash IsUnhalted run (contract ∷ contracts)

-- each status comes exactly by its cause
pub record HasCauses (hash : List ℕ → List ℕ) (texts : List Text) (status : ℕ) : Type 0 where
  pub whole : (status ≡ 0) ↔ AllIsWell hash texts
  pub contract_refused : (status ≡ 1) ↔ IsContractRefused texts
  pub run_refused : (status ≡ 6) ↔ IsRunRefused texts
  -- an event of the run gives a secret away
  pub guessed : (status ≡ 7) ↔ Plays hash IsGuessing texts
  -- the opening or an event collides
  pub collided : (status ≡ 8) ↔ Plays hash IsColliding texts

-- a file that is refused is said, the first of them, with its place and why
abbrev pub SaysRefusals : List Text → Printed → Type 0
SaysRefusals [] printed = Unit {0}
SaysRefusals (contract ∷ []) printed = ShowsContract contract printed (λ advert. Unit {0})
SaysRefusals (run ∷ contract ∷ contracts) printed = files.SaysRefusals run (contract ∷ contracts) printed
