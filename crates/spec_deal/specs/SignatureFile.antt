-- Files of signatures: what wallets signed, as partially signed transactions by BIP 174, a line each; or why a file is refused.
use Rattle.std.specs.Prelude.{ℕ, ◌+◌, List, [], ◌∷◌, ◌++◌, length, take, drop, Bool, true, false, not, ◌&&◌, ◌||◌, ◌==◌, nat_lt, slice_index}
use Rattle.std.specs.Prelude.{if◌then◌else◌, Option, Some, None, Result, Ok, Err}
use Rattle.std.specs.List.{find, list_any, list_all}
use Rattle.std.specs.Str.{bytes_eq}
use Rattle.spec_bitcoin.specs.declared.tx.TxOut.{TxOut}
use Rattle.spec_bitcoin.specs.Keys.{key_bytes, deposit_script}
use Rattle.spec_bitcoin.specs.Spelling.{stripped, is_filled}
use Rattle.spec_compiler.specs.Keyed.OwnScripts.{pays_to_key_hash}
use Rattle.spec_compiler.specs.Keyed.Keys.{Keys}
use Rattle.spec_compiler.specs.Keyed.Instance.{Instance}
use Rattle.spec_run.specs.Ledger.{same_output}
use Rattle.spec_text.specs.Lines.{lines_of, words_of}
use Rattle.spec_tool.specs.declared.psbt.PsbtInput.{PsbtInput}
use Rattle.spec_tool.specs.Base64.{base64_bytes}
use Rattle.spec_tool.specs.Psbt.{Psbt, Pairing}
use Rattle.spec_tool.specs.PsbtBytes.{psbt_of}
use Rattle.spec_deal.specs.declared.signed.Signed.{Signed}
use Rattle.spec_deal.specs.declared.fault.SignatureReason.{SignatureReason}
use Rattle.spec_deal.specs.declared.fault.SignatureReason.TheVariants as reasons
use Rattle.spec_deal.specs.declared.fault.SignatureFault.{SignatureFault}
use Rattle.spec_deal.specs.declared.fault.SignatureFault.TheVariants as faults
use Rattle.spec_deal.specs.DealFile.{is_key}
use Rattle.spec_deal.specs.Payable.{has_taproot_form}
use Rattle.spec_deal.specs.Setting.{no_key}
use Rattle.spec_deal.specs.Sizes.{most_signature_bytes}
use Rattle.spec_deal.specs.Shape.{is_strict}
use Rattle.spec_deal.specs.declared.transaction.Input.{Input}
use Rattle.spec_deal.specs.declared.transaction.Transaction.{Transaction}
use Rattle.spec_deal.specs.declared.transaction.Wallet.{Wallet}
use Rattle.spec_deal.specs.Transactions.{Required, all_required, is_at, transactions}
use Rattle.spec_deal.specs.Verifier.{Verifier}
use Rattle.spec_deal.specs.Wallets.{first_item, second_item}

-- the signatures so far, or why a line is bad
abbrev pub Taken : Type 0
Taken = Result (List Signed) SignatureReason

-- ---- a signature

-- whether both are of one input and by one key
abbrev pub same_place : Signed → Signed → Bool
same_place a b = bytes_eq a.tx b.tx && (a.input == b.input && bytes_eq a.key b.key)

-- whether a transaction with these bytes needs a signature there by this key
abbrev pub is_required : List Required → Signed → Bool
is_required required g = list_any (λ (w : Required). is_at w.spot g) required

-- whether it verifies under its key for this digest, if it is needed here
abbrev pub verifies_if : Verifier → Signed → Required → Bool
verifies_if v g w = not (is_at w.spot g) || v.is_signature g.key w.digest g.signature

-- whether it verifies for the digest of each transaction that needs it there
abbrev pub is_verified : Verifier → List Required → Signed → Bool
is_verified v required g = list_all (verifies_if v g) required

-- no signature of this place was given: it is taken where it verifies
abbrev pub taken_first : Bool → List Signed → Signed → Taken
taken_first verified given g = if verified then Ok (given ++ g ∷ []) else Err (reasons.Invalid g.input)

-- another was given
abbrev pub refused_second : Bool → Signed → Taken
refused_second verified g = if verified then Err (reasons.Conflict g.input) else Err (reasons.Invalid g.input)

-- the same signature may come again
abbrev pub taken_once : Bool → List Signed → Signed → Option Signed → Taken
taken_once verified given g None = taken_first verified given g
taken_once verified given g (Some earlier) =
    if bytes_eq earlier.signature g.signature then Ok given else refused_second verified g

-- one more signature: for a key that a transaction with these bytes needs there, of the right shape, one that verifies, and no other than
-- an earlier one
abbrev pub take_signature : Verifier → List Required → List Signed → Signed → Taken
take_signature v required given g =
    if not (is_required required g) then Err (reasons.Key g.input)
    else if not (is_strict g.signature) then Err (reasons.Signature g.input)
    else taken_once (is_verified v required g) given g (find (λ earlier. same_place earlier g) given)

-- the signatures of input k in order
abbrev pub take_signatures : Verifier → List Required → List ℕ → ℕ → List Signed → List Pairing → Taken
take_signatures v required tx k given [] = Ok given
take_signatures v required tx k given (p ∷ ps) =
    elim (take_signature v required given (record { tx = tx; input = k; key = p.0; signature = p.1; witness = [] })) [
      | Ok more ↦ take_signatures v required tx k more ps
      | Err reason ↦ Err reason
    ]

-- ---- an input that keys of the deal sign

-- the key of a script that asks for one signature alone
abbrev pub script_key : List ℕ → List ℕ
script_key script = take key_bytes (drop 1 script)

-- whether a script is a push of a key, and CHECKSIG
abbrev pub is_one_key : List ℕ → Bool
is_one_key script = (length (script_key script) == key_bytes) && bytes_eq script (deposit_script (script_key script))

-- whether what a record says of the spent output is so
abbrev pub spent_fits : TxOut → Option TxOut → Bool
spent_fits output None = true
spent_fits output (Some said) = same_output said output

abbrev pub script_fits : List ℕ → Option (List ℕ) → Bool
script_fits script None = true
script_fits script (Some said) = bytes_eq said script

-- whether a final witness is one signature and the script, which asks for one alone
abbrev pub witness_fits : List ℕ → Option (List (List ℕ)) → Bool
witness_fits script None = true
witness_fits script (Some (signature ∷ shown ∷ [])) = bytes_eq shown script && is_one_key script
witness_fits script (Some _) = false

-- the signature of a final witness
abbrev pub final_signature : List ℕ → Option (List (List ℕ)) → List Pairing
final_signature script None = []
final_signature script (Some []) = []
final_signature script (Some (signature ∷ items)) = (script_key script, signature) ∷ []

-- its records first, then its signatures in ascending order of their keys, then that of its final witness
abbrev pub take_key_input : Verifier → List Required → List ℕ → ℕ → List Signed → Input → PsbtInput → Taken
take_key_input v required tx k given i input =
    if not (spent_fits i.output input.spent) then Err (reasons.Spent k)
    else if not (script_fits i.spent.script input.script) then Err (reasons.Script k)
    else if not (witness_fits i.spent.script input.witness) then Err (reasons.Witness k)
    else take_signatures v required tx k given (input.partial ++ final_signature i.spent.script input.witness)

-- ---- an input that a wallet signs

-- whether a signature is by a Taproot key, of a hash type that signs all (BIP 341): DEFAULT, which no byte says, or ALL
abbrev pub is_taproot_signature : List ℕ → Bool
is_taproot_signature item = length item == 64 || (length item == 65 && slice_index item 64 == 1)

-- a signature, and a key
abbrev pub shows_a_key : Verifier → List (List ℕ) → Bool
shows_a_key v (signature ∷ key ∷ []) = is_key v key
shows_a_key v _ = false

-- an item alone is a signature by the key; more spend by a script, or have an annex
abbrev pub may_be_taproot : List (List ℕ) → Bool
may_be_taproot (item ∷ []) = is_taproot_signature item
may_be_taproot _ = true

-- whether items can be the witness of an input that spends an output of this script
abbrev pub has_witness_form : Verifier → List ℕ → List (List ℕ) → Bool
has_witness_form v script items =
    is_filled items
    && (if pays_to_key_hash script then shows_a_key v items
    else if has_taproot_form script then may_be_taproot items
    else true)

-- a witness by a key's hash: its signature has the right shape
abbrev pub has_strict_signature : List ℕ → List (List ℕ) → Bool
has_strict_signature script items = not (pays_to_key_hash script) || is_strict (first_item items)

-- and it verifies under the key beside it, which needn't be that of the hash
abbrev pub verifies_beside : Verifier → List ℕ → List ℕ → List (List ℕ) → Bool
verifies_beside v digest script items =
    not (pays_to_key_hash script) || v.is_signature (second_item items) digest (first_item items)

abbrev pub same_items : List (List ℕ) → List (List ℕ) → Bool
same_items [] [] = true
same_items (x ∷ xs) (y ∷ ys) = bytes_eq x y && same_items xs ys
same_items _ _ = false

-- the same witness may come again
abbrev pub witness_taken_once : Bool → List Signed → Signed → Option Signed → Taken
witness_taken_once verified given g None = taken_first verified given g
witness_taken_once verified given g (Some earlier) =
    if same_items earlier.witness g.witness then Ok given else refused_second verified g

-- one more witness: of the form that spends this script, and as far as that is known one that verifies, and no other than an earlier one
abbrev pub take_witness : Verifier → List ℕ → List ℕ → List Signed → Signed → Taken
take_witness v digest script given g =
    if not (has_witness_form v script g.witness) then Err (reasons.Witness g.input)
    else if not (has_strict_signature script g.witness) then Err (reasons.Signature g.input)
    else witness_taken_once (verifies_beside v digest script g.witness) given g (find (λ earlier. same_place earlier g) given)

-- a line without a final witness gives nothing
abbrev pub take_final : Verifier → List ℕ → ℕ → List Signed → Input → Wallet → Option (List (List ℕ)) → Taken
take_final v tx k given i w None = Ok given
take_final v tx k given i w (Some items) =
    take_witness v i.digest w.script given (record { tx = tx; input = k; key = no_key; signature = []; witness = items })

-- a wallet's own signatures and scripts are read over
abbrev pub take_wallet_input : Verifier → List ℕ → ℕ → List Signed → Input → Wallet → PsbtInput → Taken
take_wallet_input v tx k given i w input =
    if not (spent_fits i.output input.spent) then Err (reasons.Spent k) else take_final v tx k given i w input.witness

-- ---- inputs

abbrev pub take_input : Verifier → List Required → List ℕ → ℕ → List Signed → Input → PsbtInput → Taken
take_input v required tx k given i input = elim i.wallet [
  | None ↦ take_key_input v required tx k given i input
  | Some w ↦ take_wallet_input v tx k given i w input
]

-- the inputs from number k on
abbrev pub take_inputs : Verifier → List Required → List ℕ → ℕ → List Signed → List Input → List PsbtInput → Taken
take_inputs v required tx k given [] said = Ok given
take_inputs v required tx k given (i ∷ is) [] = Ok given
take_inputs v required tx k given (i ∷ is) (input ∷ said) =
    elim (take_input v required tx k given i input) [
      | Ok more ↦ take_inputs v required tx (k + 1) more is said
      | Err reason ↦ Err reason
    ]

-- ---- a line

-- whether it is the transaction with these bytes
abbrev pub has_bytes : List ℕ → Transaction → Bool
has_bytes bytes t = bytes_eq t.bytes bytes

abbrev pub take_transaction : Verifier → List Required → List Signed → Psbt → Option Transaction → Taken
take_transaction v required given p None = Err reasons.Foreign
take_transaction v required given p (Some t) = take_inputs v required (stripped p.tx) 0 given t.inputs p.inputs

abbrev pub take_psbt : Verifier → List Transaction → List Signed → Option Psbt → Taken
take_psbt v ts given None = Err reasons.Form
take_psbt v ts given (Some p) = take_transaction v (all_required ts) given p (find (has_bytes (stripped p.tx)) ts)

abbrev pub take_bytes : Verifier → List Transaction → List Signed → Option (List ℕ) → Taken
take_bytes v ts given None = Err reasons.Base64
take_bytes v ts given (Some bytes) = take_psbt v ts given (psbt_of bytes)

-- the words of a line; a line without words says nothing
abbrev pub take_words : Verifier → List Transaction → List Signed → List (List ℕ) → Taken
take_words v ts given [] = Ok given
take_words v ts given (word ∷ []) = take_bytes v ts given (base64_bytes word)
take_words v ts given (word ∷ (next ∷ words)) = Err reasons.Base64

-- ---- a file

-- the lines from number n on
abbrev pub take_lines : Verifier → List Transaction → List Signed → ℕ → List (List ℕ) → Result (List Signed) SignatureFault
take_lines v ts given n [] = Ok given
take_lines v ts given n (line ∷ lines) = elim (take_words v ts given (words_of line)) [
  | Ok more ↦ take_lines v ts more (n + 1) lines
  | Err reason ↦ Err (faults.Line n reason)
]

-- the signatures that a file gives to these transactions, or why it is refused
abbrev pub read_given : Verifier → List Transaction → List ℕ → Result (List Signed) SignatureFault
read_given v ts text = if nat_lt most_signature_bytes (length text) then Err faults.Size else take_lines v ts [] 1 (lines_of text)

-- those that it gives to a deal
abbrev pub read_signatures : Verifier → (List ℕ → List ℕ) → Keys → Instance → List ℕ → Result (List Signed) SignatureFault
read_signatures v hash keys s text = read_given v (transactions hash keys s) text
