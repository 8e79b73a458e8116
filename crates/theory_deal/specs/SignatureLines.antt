-- What is claimed of files of signatures: a file comes to what its lines come to, each by the transaction that its word spells, input by
-- input, signature by signature; so it is refused at its first bad line, by the first reason that holds there.
use Rattle.std.specs.Prelude.{◌≡◌, ℕ, ◌+◌, ◌<◌, ◌≤◌, List, [], ◌∷◌, ◌++◌, length, ◌⊎◌, ◌↔◌, true, slice_index, Option, Some, None}
use Rattle.std.specs.Prelude.{Result, Ok, Err}
use Rattle.spec_bitcoin.specs.declared.tx.TxOut.{TxOut}
use Rattle.spec_bitcoin.specs.Keys.{key_bytes, deposit_script}
use Rattle.spec_bitcoin.specs.Spelling.{IsBytes, stripped}
use Rattle.spec_compiler.specs.Keyed.OwnScripts.{pays_to_key_hash}
use Rattle.spec_compiler.specs.Keyed.Keys.{Keys}
use Rattle.spec_compiler.specs.Keyed.Instance.{Instance}
use Rattle.spec_text.specs.Lines.{lines_of, words_of}
use Rattle.spec_tool.specs.declared.psbt.PsbtInput.{PsbtInput}
use Rattle.spec_tool.specs.Base64.{base64_text}
use Rattle.spec_tool.specs.Psbt.{Psbt, Pairing, Spells}
use Rattle.spec_deal.specs.declared.signed.Signed.{Signed}
use Rattle.spec_deal.specs.declared.fault.SignatureReason.{SignatureReason}
use Rattle.spec_deal.specs.declared.fault.SignatureReason.TheVariants as reasons
use Rattle.spec_deal.specs.declared.fault.SignatureFault.{SignatureFault}
use Rattle.spec_deal.specs.declared.fault.SignatureFault.TheVariants as faults
use Rattle.spec_deal.specs.Sizes.{most_signature_bytes}
use Rattle.spec_deal.specs.Payable.{has_taproot_form}
use Rattle.spec_deal.specs.Setting.{no_key}
use Rattle.spec_deal.specs.Shape.{HasShape}
use Rattle.spec_deal.specs.declared.transaction.Input.{Input}
use Rattle.spec_deal.specs.declared.transaction.Transaction.{Transaction}
use Rattle.spec_deal.specs.declared.transaction.Wallet.{Wallet}
use Rattle.spec_deal.specs.Transactions.{Required, all_required, transactions}
use Rattle.spec_deal.specs.SignatureFile.{Taken, read_signatures}
use Rattle.spec_deal.specs.Verifier.{Verifier}
use Rattle.spec_deal.specs.Wallets.{first_item, second_item}
use Rattle.theory_deal.specs.DealLines.{IsCompressed}
use Rattle.theory_deal.specs.FirstOf.{NoneIs, IsFirst, EachIs}

-- ---- cases

-- the first where this holds, and the second where it doesn't
abbrev pub IfSo : Type 0 → Type 0 → Type 0 → Type 0
IfSo P A B = (P × A) ⊎ ((P → ⊥) × B)

-- the first where it holds of none of these, and else the second of the first of which it holds
abbrev pub IfAny : {X : Type 0} → (X → Type 0) → List X → Type 0 → (X → Type 0) → Type 0
IfAny {X} P xs A B = (NoneIs P xs × A) ⊎ ((x : X) × IsFirst P xs x × B x)

-- the first where it holds of nothing, and else the second of what it holds of
abbrev pub IfOne : {X : Type 0} → (X → Type 0) → Type 0 → (X → Type 0) → Type 0
IfOne {X} P A B = (((x : X) → P x → ⊥) × A) ⊎ ((x : X) × P x × B x)

-- a first step comes to signatures, behind which the others go on, or to a reason, with which all end
abbrev pub IsThen : (Taken → Type 0) → (List Signed → Type 0) → (SignatureReason → Type 0) → Type 0
IsThen Step GoesOn Ends = ((more : List Signed) × Step (Ok more) × GoesOn more) ⊎ ((reason : SignatureReason) × Step (Err reason) × Ends reason)

-- ---- a signature

-- it is for this input of a transaction with these bytes, and by this key
abbrev pub IsFor : Signed → Required → Type 0
IsFor g required = (g.tx ≡ required.spot.tx) × ((g.input ≡ required.spot.input) × (g.key ≡ required.spot.key))

-- it verifies for the digest of each transaction that needs it
abbrev pub Verifies : Verifier → List Required → Signed → Type 0
Verifies v required g = EachIs (λ (w : Required). IsFor g w → v.is_signature g.key w.digest g.signature ≡ true) required

-- both are of one input and by one key
abbrev pub IsInPlace : Signed → Signed → Type 0
IsInPlace g earlier = (earlier.tx ≡ g.tx) × ((earlier.input ≡ g.input) × (earlier.key ≡ g.key))

-- the first of its place is taken where it verifies
abbrev pub FirstTaken : Type 0 → List Signed → Signed → Taken → Type 0
FirstTaken IsGood given g taken = IfSo IsGood (taken ≡ Ok (given ++ g ∷ [])) (taken ≡ Err (reasons.Invalid g.input))

-- a second one is taken where it is the same
abbrev pub SecondTaken : Type 0 → Type 0 → List Signed → Signed → Taken → Type 0
SecondTaken IsGood IsSame given g taken =
    IfSo IsSame (taken ≡ Ok given)
    (IfSo IsGood (taken ≡ Err (reasons.Conflict g.input)) (taken ≡ Err (reasons.Invalid g.input)))

-- one more signature comes to this
abbrev pub SignatureTaken : Verifier → List Required → List Signed → Signed → Taken → Type 0
SignatureTaken v required given g taken =
    IfSo (NoneIs (IsFor g) required) (taken ≡ Err (reasons.Key g.input))
    (IfSo (HasShape g.signature → ⊥) (taken ≡ Err (reasons.Signature g.input))
    (IfAny (IsInPlace g) given (FirstTaken (Verifies v required g) given g taken)
    (λ earlier. SecondTaken (Verifies v required g) (earlier.signature ≡ g.signature) given g taken)))

abbrev pub signed_by : List ℕ → ℕ → Pairing → Signed
signed_by tx k p = record { tx = tx; input = k; key = p.0; signature = p.1; witness = [] }

-- the signatures of input k, one behind the other
abbrev pub SignaturesTaken : Verifier → List Required → List ℕ → ℕ → List Signed → List Pairing → Taken → Type 0
SignaturesTaken v required tx k given [] taken = taken ≡ Ok given
SignaturesTaken v required tx k given (p ∷ ps) taken =
    IsThen (SignatureTaken v required given (signed_by tx k p)) (λ more. SignaturesTaken v required tx k more ps taken)
    (λ reason. taken ≡ Err reason)

-- ---- an input

-- something is said, and it is another
abbrev pub SaysOther : {X : Type 0} → X → Option X → Type 0
SaysOther x None = ⊥
SaysOther x (Some said) = said ≡ x → ⊥

-- a final witness gives these signatures: none where there is none, and else the one before the script, which asks for this key alone
abbrev pub FinalGives : List ℕ → Option (List (List ℕ)) → List Pairing → Type 0
FinalGives script None ps = ps ≡ []
FinalGives script (Some []) ps = ⊥
FinalGives script (Some (signature ∷ [])) ps = ⊥
FinalGives script (Some (signature ∷ shown ∷ [])) ps =
    (key : List ℕ) × (length key ≡ key_bytes) × (script ≡ deposit_script key) × (shown ≡ script) × (ps ≡ (key, signature) ∷ [])
FinalGives script (Some (signature ∷ shown ∷ item ∷ items)) ps = ⊥

-- an input that keys sign: what its records say, and then its signatures and that of its final witness
abbrev pub KeyInputTaken : Verifier → List Required → List ℕ → ℕ → List Signed → Input → PsbtInput → Taken → Type 0
KeyInputTaken v required tx k given i input taken =
    IfSo (SaysOther i.output input.spent) (taken ≡ Err (reasons.Spent k))
    (IfSo (SaysOther i.spent.script input.script) (taken ≡ Err (reasons.Script k))
    (IfOne (FinalGives i.spent.script input.witness) (taken ≡ Err (reasons.Witness k))
    (λ ps. SignaturesTaken v required tx k given (input.partial ++ ps) taken)))

-- ---- an input that a wallet signs

-- a signature, and a key
abbrev pub ShowsKey : Verifier → List (List ℕ) → Type 0
ShowsKey v items =
    (signature : List ℕ) × (key : List ℕ) × (items ≡ signature ∷ key ∷ []) × IsCompressed key × (v.is_point key ≡ true)

-- an item alone is a signature whose hash type signs all: none said, or 1
abbrev pub MayBeTaproot : List (List ℕ) → Type 0
MayBeTaproot items =
    (item : List ℕ) → items ≡ item ∷ [] → (length item ≡ 64) ⊎ ((length item ≡ 65) × (slice_index item 64 ≡ 1))

-- items can be the witness of an input that spends an output of this script: there are some; by a key's hash they are a signature and a
-- key; by a Taproot key one alone is a signature
pub record CanSpend (v : Verifier) (script : List ℕ) (items : List (List ℕ)) : Type 0 where
  pub some : items ≡ [] → ⊥
  pub key_hash : pays_to_key_hash script ≡ true → ShowsKey v items
  pub taproot : has_taproot_form script ≡ true → MayBeTaproot items

-- by a key's hash the signature verifies under the key beside it
abbrev pub VerifiesBeside : Verifier → List ℕ → List ℕ → List (List ℕ) → Type 0
VerifiesBeside v digest script items =
    pays_to_key_hash script ≡ true → v.is_signature (second_item items) digest (first_item items) ≡ true

-- by a key's hash its signature has the shape
abbrev pub HasShapeThere : List ℕ → List (List ℕ) → Type 0
HasShapeThere script items = pays_to_key_hash script ≡ true → HasShape (first_item items)

-- one more witness of a wallet's comes to this
abbrev pub WitnessTaken : Verifier → List ℕ → List ℕ → List Signed → Signed → Taken → Type 0
WitnessTaken v digest script given g taken =
    IfSo (CanSpend v script g.witness → ⊥) (taken ≡ Err (reasons.Witness g.input))
    (IfSo (HasShapeThere script g.witness → ⊥) (taken ≡ Err (reasons.Signature g.input))
    (IfAny (IsInPlace g) given (FirstTaken (VerifiesBeside v digest script g.witness) given g taken)
    (λ earlier. SecondTaken (VerifiesBeside v digest script g.witness) (earlier.witness ≡ g.witness) given g taken)))

abbrev pub witnessed_by : List ℕ → ℕ → List (List ℕ) → Signed
witnessed_by tx k items = record { tx = tx; input = k; key = no_key; signature = []; witness = items }

-- a final witness, if there is one
abbrev pub FinalTaken : Verifier → List ℕ → ℕ → List Signed → Input → Wallet → Option (List (List ℕ)) → Taken → Type 0
FinalTaken v tx k given i w None taken = taken ≡ Ok given
FinalTaken v tx k given i w (Some items) taken = WitnessTaken v i.digest w.script given (witnessed_by tx k items) taken

-- what its record of the output says, and then its final witness; its other records are read over
abbrev pub WalletInputTaken : Verifier → List ℕ → ℕ → List Signed → Input → Wallet → PsbtInput → Taken → Type 0
WalletInputTaken v tx k given i w input taken =
    IfSo (SaysOther i.output input.spent) (taken ≡ Err (reasons.Spent k)) (FinalTaken v tx k given i w input.witness taken)

-- ---- inputs

abbrev pub InputTakenBy : Verifier → List Required → List ℕ → ℕ → List Signed → Input → PsbtInput → Taken → Option Wallet → Type 0
InputTakenBy v required tx k given i input taken None = KeyInputTaken v required tx k given i input taken
InputTakenBy v required tx k given i input taken (Some w) = WalletInputTaken v tx k given i w input taken

abbrev pub InputTaken : Verifier → List Required → List ℕ → ℕ → List Signed → Input → PsbtInput → Taken → Type 0
InputTaken v required tx k given i input taken = InputTakenBy v required tx k given i input taken i.wallet

-- the inputs from number k on
abbrev pub InputsTaken : Verifier → List Required → List ℕ → ℕ → List Signed → List Input → List PsbtInput → Taken → Type 0
InputsTaken v required tx k given [] said taken = taken ≡ Ok given
InputsTaken v required tx k given (i ∷ is) [] taken = taken ≡ Ok given
InputsTaken v required tx k given (i ∷ is) (input ∷ said) taken =
    IsThen (InputTaken v required tx k given i input) (λ more. InputsTaken v required tx (k + 1) more is said taken)
    (λ reason. taken ≡ Err reason)

-- ---- a line

-- the word is the base64 of these bytes
pub record IsCoded (word bytes : List ℕ) : Type 0 where
  pub each : IsBytes bytes
  pub same : word ≡ base64_text bytes

abbrev pub HasBytes : List ℕ → Transaction → Type 0
HasBytes bytes t = t.bytes ≡ bytes

-- a partially signed transaction: that of the first of the deal's with its bytes
abbrev pub PsbtTaken : Verifier → List Transaction → List Signed → Taken → Psbt → Type 0
PsbtTaken v ts given taken p =
    IfAny (HasBytes (stripped p.tx)) ts (taken ≡ Err reasons.Foreign)
    (λ t. InputsTaken v (all_required ts) (stripped p.tx) 0 given t.inputs p.inputs taken)

abbrev pub BytesTaken : Verifier → List Transaction → List Signed → Taken → List ℕ → Type 0
BytesTaken v ts given taken bytes = IfOne (Spells bytes) (taken ≡ Err reasons.Form) (PsbtTaken v ts given taken)

-- the words of a line; a line without words says nothing
abbrev pub WordsTaken : Verifier → List Transaction → List Signed → List (List ℕ) → Taken → Type 0
WordsTaken v ts given [] taken = taken ≡ Ok given
WordsTaken v ts given (word ∷ []) taken = IfOne (IsCoded word) (taken ≡ Err reasons.Base64) (BytesTaken v ts given taken)
WordsTaken v ts given (word ∷ (next ∷ words)) taken = taken ≡ Err reasons.Base64

-- ---- all lines

-- the lines from number n on come to this, behind the signatures that came before
abbrev pub SignaturesCome : Verifier → List Transaction → List Signed → ℕ → List (List ℕ) → Result (List Signed) SignatureFault → Type 0
SignaturesCome v ts given n [] read = read ≡ Ok given
SignaturesCome v ts given n (line ∷ lines) read =
    IsThen (WordsTaken v ts given (words_of line)) (λ more. SignaturesCome v ts more (n + 1) lines read)
    (λ reason. read ≡ Err (faults.Line n reason))

-- a text comes to this
abbrev pub SignaturesAre : Verifier → List Transaction → List ℕ → Result (List Signed) SignatureFault → Type 0
SignaturesAre v ts text read =
    ((most_signature_bytes < length text) × (read ≡ Err faults.Size))
    ⊎ ((length text ≤ most_signature_bytes) × SignaturesCome v ts [] 1 (lines_of text) read)

-- ---- what is claimed

abbrev pub SignatureFilesAreRead : Type 0
SignatureFilesAreRead = (v : Verifier) (hash : List ℕ → List ℕ) (keys : Keys) (s : Instance) (text : List ℕ)
    (read : Result (List Signed) SignatureFault)
    → (read_signatures v hash keys s text ≡ read) ↔ SignaturesAre v (transactions hash keys s) text read
