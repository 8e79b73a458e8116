-- What the readers of files of signatures answer, against what reading gives.
use Rattle.std.specs.Prelude.{◌≡◌, ℕ, List, [], ◌∷◌, true, false, Option, Some, None, Result, Ok, Err}
use Rattle.spec_deal.specs.declared.signed.Signed.{Signed}
use Rattle.spec_deal.specs.declared.fault.SignatureFault.{SignatureFault}
use Rattle.spec_deal.specs.declared.fault.SignatureFault.TheVariants as faults
use Rattle.spec_deal.specs.SignatureFile.{Taken, script_key, is_one_key, witness_fits, final_signature}
use Rattle.spec_tool.specs.Psbt.{Pairing}
use Rattle.deal_signatures.specs.declared.error.SignatureError.{SignatureError}
use Rattle.deal_signatures.specs.declared.error.SignatureError.TheVariants as files
use Rattle.deal_signatures.specs.declared.error.LineError.{LineError}
use Rattle.deal_signatures.specs.declared.error.LineError.TheVariants as lines

-- a line doesn't count where the code says so, unless memory ran out
abbrev pub Stops : LineError → Taken → Type 0
Stops (lines.Bad reason) taken = taken ≡ Err reason
Stops lines.Memory taken = Unit {0}

-- what the code takes is what is to be taken
abbrev pub Takes : {U : Type 0} → List Signed → List Signed → Result U LineError → Taken → Type 0
Takes old new (Ok done) taken = taken ≡ Ok new
Takes old new (Err e) taken = Stops e taken

-- the key of a script that asks for one signature alone
abbrev pub IsKeyOf : List ℕ → Option (List ℕ) → Type 0
IsKeyOf script None = is_one_key script ≡ false
IsKeyOf script (Some key) = (is_one_key script ≡ true) × (script_key script ≡ key)

-- at most one
abbrev pub one_or_none : Option Pairing → List Pairing
one_or_none None = []
one_or_none (Some p) = p ∷ []

-- the signature of a final witness that fits
abbrev pub IsFinal : List ℕ → Option (List (List ℕ)) → Option (Option Pairing) → Type 0
IsFinal script witness None = witness_fits script witness ≡ false
IsFinal script witness (Some final) =
    (witness_fits script witness ≡ true) × (final_signature script witness ≡ one_or_none final)

-- a text is refused where the code says so, unless memory ran out
abbrev pub Refuses : {Y : Type 0} → SignatureError → Result Y SignatureFault → Type 0
Refuses (files.Refused fault) read = read ≡ Err fault
Refuses files.Memory read = Unit {0}

-- what a function returned, seen by view, is what the text gives, unless memory ran out
abbrev pub Gives : {X Y : Type 0} → (X → Y) → Result X SignatureError → Result Y SignatureFault → Type 0
Gives view (Ok x) read = read ≡ Ok (view x)
Gives view (Err e) read = Refuses e read

-- why a text is refused, by its line
abbrev pub at_line : LineError → ℕ → SignatureError
at_line (lines.Bad reason) n = files.Refused (faults.Line n reason)
at_line lines.Memory n = files.Memory
