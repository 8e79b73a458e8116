-- How the verdict on a transaction is reached, where what its inputs are hashed to is given; after BIP 141 and BIP 143.
use Rattle.std.specs.Prelude.{ℕ, ◌+◌, List, [], ◌∷◌, length, Bool, not, ◌==◌, if◌then◌else◌, Option, Some, None}
use Rattle.std.specs.List.{list_any}
use Rattle.std.specs.Option.{option_map}
use Rattle.std.specs.Str.{bytes_eq}
use Rattle.spec_data.specs.Lists.{first_reason}
use Rattle.spec_bitcoin.specs.declared.tx.TxIn.{TxIn}
use Rattle.spec_bitcoin.specs.declared.tx.TxOut.{TxOut}
use Rattle.spec_bitcoin.specs.declared.tx.Tx.{Tx}
use Rattle.spec_bitcoin.specs.declared.verdict.Refusal.{Refusal}
use Rattle.spec_bitcoin.specs.declared.verdict.Refusal.TheVariants.{ScriptSigNotEmpty, NotWitnessScript, ScriptMismatch, ItemTooLong}
use Rattle.spec_bitcoin.specs.declared.verdict.Refusal.TheVariants.{ScriptFalse}
use Rattle.spec_bitcoin.specs.declared.verdict.Verdict.{Verdict}
use Rattle.spec_bitcoin.specs.declared.verdict.Verdict.TheVariants.{Accepted, Refused}
use Rattle.spec_bitcoin.specs.Spelling.{is_filled}
use Rattle.spec_bitcoin.specs.Digests.{txid, digest}
use Rattle.spec_bitcoin.specs.Keys.{Pair, is_valid}
use Rattle.spec_bitcoin.specs.Live.{Entry, Chain, at_place, after_transaction}
use Rattle.spec_bitcoin.specs.Meaning.{script_meaning}
use Rattle.spec_bitcoin.specs.Verdict.{pays_to_script, program_of, script_of, items_of, is_long}
use Rattle.bm_ledger.specs.declared.hashes.InputHashes.{InputHashes}

-- the hash that an output pays to, if it pays to one
abbrev pub program_in : List ℕ → Option (List ℕ)
program_in script = if pays_to_script script then Some (program_of script) else None

-- why input k is refused where it has no witness
abbrev pub unfilled_refusal : ℕ → TxIn → Refusal
unfilled_refusal k input = if length input.script_sig == 0 then NotWitnessScript k else ScriptSigNotEmpty k

-- the hashes of an input that has a witness and spends this output
abbrev pub hashes_with : (List ℕ → List ℕ) → Tx → TxIn → TxOut → InputHashes
hashes_with hash tx input output =
    record { script = hash (script_of input.witness); digest = digest hash tx input (script_of input.witness) output.value }

-- the conditions on input k, in their order, where it has a witness, and these are its hashes
abbrev pub row_with : (List ℕ → List ℕ) → List Pair → InputHashes → ℕ → TxIn → TxOut → List (Bool × Refusal)
row_with hash book hashes k input output =
    (not (length input.script_sig == 0), ScriptSigNotEmpty k)
    ∷ (not (pays_to_script output.script), NotWitnessScript k)
    ∷ (not (bytes_eq hashes.script (program_of output.script)), ScriptMismatch k)
    ∷ (list_any is_long (items_of input.witness), ItemTooLong k)
    ∷ (not (script_meaning hash (is_valid book hashes.digest) (script_of input.witness) (items_of input.witness)), ScriptFalse k)
    ∷ []

-- the refusal of input k, which spends this output, where these are its hashes; none where it has no witness
abbrev pub spending_refusal : (List ℕ → List ℕ) → List Pair → ℕ → TxIn → Option InputHashes → TxOut → Option Refusal
spending_refusal hash book k input None output = Some (unfilled_refusal k input)
spending_refusal hash book k input (Some hashes) output = first_reason (row_with hash book hashes k input output)

-- the hashes of an input, where it has a witness and spends a live output
abbrev pub input_hashes : (List ℕ → List ℕ) → List Entry → Tx → TxIn → Option InputHashes
input_hashes hash live tx input =
    if is_filled input.witness then option_map (λ p. hashes_with hash tx input p.1) (at_place live input.prev) else None

-- the ledger after a transaction with this verdict
abbrev pub after_verdict : (List ℕ → List ℕ) → Chain → Tx → Verdict → Chain
after_verdict hash chain tx (Accepted spent made) = after_transaction chain (txid hash tx) tx
after_verdict hash chain tx (Refused refusal) = chain

-- the ledger after so many blocks
abbrev pub after_blocks : Chain → ℕ → Chain
after_blocks chain blocks = record chain { tip = chain.tip + blocks }
