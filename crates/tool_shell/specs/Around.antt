-- What stands around a call, and how a call ends that writes a text.
use Rattle.std.specs.Prelude.{◌≡◌, ℕ, List, [], ◌∷◌, ◌++◌, take, Bool, true, false, Option}
use Rattle.spec_tool.specs.Commands.{Printed}
use Rattle.spec_tool.specs.Answers.{ended}
use Rattle.bm_io.specs.Counts.{RoseBy}
use Rattle.bm_io.specs.Files.{Told}
use Rattle.bm_io.specs.Logs.{Reply}

-- what stands around a call: what files tell of themselves, if they do, the reads so far, how many bytes they took, and how often one
-- has failed; the pieces that the sink took, one for each write, and how often one has failed
pub record Around : Type 0 where
  pub told : Option Told
  pub log : List Reply
  pub taken : ℕ
  pub read_faults : ℕ
  pub written : List (List ℕ)
  pub write_faults : ℕ

-- the same, put together
abbrev pub around : Option Told → List Reply → ℕ → ℕ → List (List ℕ) → ℕ → Around
around told log taken read_faults written write_faults = record {
  told = told;
  log = log;
  taken = taken;
  read_faults = read_faults;
  written = written;
  write_faults = write_faults;
}

-- what was written, with this text after it as one piece; an empty text isn't written
abbrev pub with_text : List ℕ → List (List ℕ) → List (List ℕ)
with_text [] written = written
with_text (byte ∷ bytes) written = written ++ (byte ∷ bytes) ∷ []

-- the text was written whole, where the write went through, and else a prefix of it, as one piece
abbrev pub IsWritten : List ℕ → Bool → List (List ℕ) → List (List ℕ) → Type 0
IsWritten text true before now = now ≡ with_text text before
IsWritten [] false before now = now ≡ before
IsWritten (byte ∷ bytes) false before now = (n : ℕ) × (now ≡ before ++ take n (byte ∷ bytes) ∷ [])

-- How a call ends that writes this: with its status, where all of the text was written, and else with 4 and a prefix of the text. A
-- write fails only where the count of faults rose.
pub record Ends (printed : Printed) (before now : List (List ℕ)) (faults faults_now : ℕ) (status : ℕ) : Type 0 where
  pub went : Bool
  pub written : IsWritten printed.text went before now
  pub status_is : status ≡ ended printed went
  pub unwritten : went ≡ false → RoseBy 1 faults faults_now
