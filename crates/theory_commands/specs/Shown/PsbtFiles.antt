-- What `psbt FILE` and `psbt FILE FILE` show.
use Rattle.std.specs.Prelude.{◌≡◌, ℕ, ◌⊎◌, ◌++◌, codes}
use Rattle.std.specs.Fmt.{decimal}
use Rattle.spec_tool.specs.Commands.{Printed, prints}
use Rattle.spec_tool.specs.Psbt.{Psbt}
use Rattle.spec_tool.specs.PsbtText.{shown_text, file_refused, psbt_refused, joined_answer}
use Rattle.spec_tool.specs.Reads.{Text}
use Rattle.theory_psbt.specs.Joined.{FirstApart, IsJoined}
use Rattle.theory_commands.specs.Files.{Judges}
use Rattle.theory_commands.specs.PsbtFiles.{HoldsPsbt, IsRefusedPsbt, psbt_refusal_text}

-- of the file with this number: what is shown of what it holds, or why it is refused
abbrev pub ShowsPsbt : ℕ → Text → Printed → (Psbt → Type 0) → Type 0
ShowsPsbt n text printed shown =
    Judges (HoldsPsbt text) (IsRefusedPsbt text) shown (λ r. printed ≡ file_refused n (psbt_refusal_text r))

-- the file holds a partially signed transaction, and it is shown what that says
abbrev pub ShowsFile : Text → Printed → Type 0
ShowsFile text printed = ShowsPsbt 0 text printed (λ p. printed ≡ prints 0 (shown_text p))

-- ---- two files

-- it is shown what both say together; the files the other way round give the same
pub record ShowsBoth (first second : Text) (p q : Psbt) (printed : Printed) : Type 0 where
  pub joined : Psbt
  pub is : IsJoined p q joined
  pub answer : printed ≡ prints 0 (shown_text joined)
  pub other_way : joined_answer second first ≡ printed

-- they are of different transactions
pub record AreOther (p q : Psbt) (printed : Printed) : Type 0 where
  pub differ : p.tx ≡ q.tx → ⊥
  pub answer : printed ≡ psbt_refused (codes "other")

-- they are of one transaction, and this is the first input of which both have a record of one key with different values
pub record AreInConflict (p q : Psbt) (printed : Printed) : Type 0 where
  pub input : ℕ
  pub same : p.tx ≡ q.tx
  pub first : FirstApart input p.inputs q.inputs
  pub answer : printed ≡ psbt_refused (codes "conflict " ++ decimal input)

-- each file holds a partially signed transaction, and they are combined, or it is said why they can't be
abbrev pub ShowsFiles : Text → Text → Printed → Type 0
ShowsFiles first second printed =
    ShowsPsbt 0 first printed (λ p. ShowsPsbt 1 second printed (λ q.
    ShowsBoth first second p q printed ⊎ (AreOther p q printed ⊎ AreInConflict p q printed)))
