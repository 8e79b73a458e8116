-- How outcomes and their reasons are printed.
use Rattle.std.specs.Prelude.{ℕ, List, [], ◌++◌, flat_map, Option, Some, None, codes}
use Rattle.std.specs.Fmt.{decimal}
use Rattle.spec_bitcoin.specs.declared.verdict.Refusal.{Refusal}
use Rattle.spec_bitcoin.specs.declared.verdict.Refusal.TheVariants as refusal
use Rattle.spec_bitcoin.specs.Keys.{path_text}
use Rattle.spec_run.specs.declared.outcome.Outcome.{Outcome}
use Rattle.spec_run.specs.declared.outcome.Outcome.TheVariants.{Done, Accepted, Refused}
use Rattle.spec_run.specs.declared.outcome.Reason.{Reason}
use Rattle.spec_run.specs.declared.outcome.Reason.TheVariants as reason
use Rattle.spec_text.specs.RunText.{output_text, outputs_text}

-- ---- refusals of the ledger

abbrev pub refusal_name : Refusal → List ℕ
refusal_name refusal.NoInput = codes "NoInput"
refusal_name refusal.NoOutput = codes "NoOutput"
refusal_name refusal.InputRepeated = codes "InputRepeated"
refusal_name (refusal.MissingInput k) = codes "MissingInput"
refusal_name refusal.ValueLimit = codes "ValueLimit"
refusal_name refusal.InsufficientIn = codes "InsufficientIn"
refusal_name refusal.NotFinal = codes "NotFinal"
refusal_name (refusal.ScriptSigNotEmpty k) = codes "ScriptSigNotEmpty"
refusal_name (refusal.NotWitnessScript k) = codes "NotWitnessScript"
refusal_name (refusal.ScriptMismatch k) = codes "ScriptMismatch"
refusal_name (refusal.ItemTooLong k) = codes "ItemTooLong"
refusal_name (refusal.ScriptFalse k) = codes "ScriptFalse"

-- the input at fault, where it is an input's
abbrev pub faulty_input : Refusal → Option ℕ
faulty_input refusal.NoInput = None
faulty_input refusal.NoOutput = None
faulty_input refusal.InputRepeated = None
faulty_input (refusal.MissingInput k) = Some k
faulty_input refusal.ValueLimit = None
faulty_input refusal.InsufficientIn = None
faulty_input refusal.NotFinal = None
faulty_input (refusal.ScriptSigNotEmpty k) = Some k
faulty_input (refusal.NotWitnessScript k) = Some k
faulty_input (refusal.ScriptMismatch k) = Some k
faulty_input (refusal.ItemTooLong k) = Some k
faulty_input (refusal.ScriptFalse k) = Some k

abbrev pub input_text : Option ℕ → List ℕ
input_text None = []
input_text (Some k) = codes " " ++ decimal k

-- what runs and audits show; a picture has the name alone
abbrev pub refusal_text : Refusal → List ℕ
refusal_text r = refusal_name r ++ input_text (faulty_input r)

-- ---- reasons

-- a reason that shows a name
abbrev pub with_name : List ℕ → List ℕ → List ℕ
with_name text name = text ++ (codes " " ++ name)

-- a reason that shows a number
abbrev pub with_number : List ℕ → ℕ → List ℕ
with_number text number = text ++ (codes " " ++ decimal number)

-- the name of a reason, and what it shows
abbrev pub reason_text : Reason → List ℕ
reason_text reason.NoContract = codes "NoContract"
reason_text reason.AdvertFull = codes "AdvertFull"
reason_text reason.WrongNames = codes "WrongNames"
reason_text (reason.DepositRepeated x) = with_name (codes "DepositRepeated") x
reason_text (reason.NotLive x) = with_name (codes "NotLive") x
reason_text (reason.WrongDeposit x) = with_name (codes "WrongDeposit") x
reason_text reason.NoHonest = codes "NoHonest"
reason_text reason.NotAdvertised = codes "NotAdvertised"
reason_text reason.NotParticipant = codes "NotParticipant"
reason_text reason.AlreadyCommitted = codes "AlreadyCommitted"
reason_text (reason.NoSecret a) = with_name (codes "NoSecret") a
reason_text (reason.BadSecretLength a) = with_name (codes "BadSecretLength") a
reason_text (reason.HashRepeated a) = with_name (codes "HashRepeated") a
reason_text reason.NotAllCommitted = codes "NotAllCommitted"
reason_text (reason.NotEndorsed path party) = codes "NotEndorsed " ++ (path_text path ++ (codes " " ++ party))
reason_text reason.NotActive = codes "NotActive"
reason_text reason.NoBranch = codes "NoBranch"
reason_text reason.NotAsked = codes "NotAsked"
reason_text reason.NotHonest = codes "NotHonest"
reason_text reason.NotCommitted = codes "NotCommitted"
reason_text reason.NotBegun = codes "NotBegun"
reason_text reason.AlreadyRevealed = codes "AlreadyRevealed"
reason_text reason.Honest = codes "Honest"
reason_text reason.NotOwner = codes "NotOwner"
reason_text (reason.NotLiveOutput n) = with_number (codes "NotLive") n
reason_text (reason.NotOwnerOutput n) = with_number (codes "NotOwner") n
reason_text (reason.BadTx place) = with_number (codes "BadTx") place
reason_text reason.NotCompiled = codes "NotCompiled"
reason_text (reason.SecretUnknown a) = with_name (codes "SecretUnknown") a
reason_text reason.TimeLimit = codes "TimeLimit"
reason_text (reason.Ledger r) = refusal_text r

-- ---- outcomes

-- ` #n v` for each new output
abbrev pub generated_text : List (ℕ × ℕ) → List ℕ
generated_text ms = flat_map (λ m. codes " " ++ (output_text m.0 ++ (codes " " ++ decimal m.1))) ms

-- `accepted spends #a #b makes #c v #d w lock L`
abbrev pub accepted_text : List ℕ → List (ℕ × ℕ) → ℕ → List ℕ
accepted_text spent made lock =
    codes "accepted spends" ++ (outputs_text spent ++ (codes " makes" ++ (generated_text made ++ (codes " lock " ++ decimal lock))))

-- the line of an outcome, without its end
abbrev pub outcome_text : Outcome → List ℕ
outcome_text Done = codes "done"
outcome_text (Accepted spent made lock) = accepted_text spent made lock
outcome_text (Refused r) = codes "refused " ++ reason_text r
