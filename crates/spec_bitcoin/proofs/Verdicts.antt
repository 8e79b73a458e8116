-- Verdicts on a ledger with one output of 10 to a deposit script, worked out.
use Rattle.std.proofs.Common.{◌≡◌, ℕ, List, [], ◌∷◌, ◌++◌, Bool, true, false, Option, Some, None, length, replicate, refl, codes}
use Rattle.std.specs.Prelude.{sum, ◌%◌}
use Rattle.spec_bitcoin.specs.declared.tx.OutPoint.{OutPoint}
use Rattle.spec_bitcoin.specs.declared.tx.TxIn.{TxIn}
use Rattle.spec_bitcoin.specs.declared.tx.TxOut.{TxOut}
use Rattle.spec_bitcoin.specs.declared.tx.Tx.{Tx}
use Rattle.spec_bitcoin.specs.declared.label.Label.TheVariants.{Deposit}
use Rattle.spec_bitcoin.specs.declared.verdict.Verdict.TheVariants.{Accepted, Refused}
use Rattle.spec_bitcoin.specs.declared.verdict.Refusal.TheVariants.{NoInput, NoOutput, InputRepeated, MissingInput, ValueLimit, InsufficientIn, NotFinal, ScriptSigNotEmpty, NotWitnessScript, ScriptMismatch, ItemTooLong, ScriptFalse}
use Rattle.spec_bitcoin.specs.Spelling.{compact}
use Rattle.spec_bitcoin.specs.Digests.{places_list, sequences_list, outputs_list, preimage, digest}
use Rattle.spec_bitcoin.specs.Numbers.{number_of_item, item_of_number, signed_bytes}
use Rattle.spec_bitcoin.specs.Scripts.{ops_of}
use Rattle.spec_bitcoin.specs.Meaning.{script_meaning}
use Rattle.spec_bitcoin.specs.Keys.{Pair, label_text, key_of, deposit_script, pay_to_key, signature_of}
use Rattle.spec_bitcoin.specs.Live.{Chain, opening_chain}
use Rattle.spec_bitcoin.specs.Verdict.{verdict}

-- a hash of 32 bytes: the sum of the bytes modulo 256, and zeros
abbrev toy : List ℕ → List ℕ
toy message = (sum message % 256) ∷ replicate 31 0

abbrev key : List ℕ
key = key_of toy (Deposit (codes "A"))

abbrev chain : Chain
chain = opening_chain (replicate 32 7) (record { value = 10; script = pay_to_key toy key } ∷ [])

abbrev spending : List ℕ → ℕ → List (List ℕ) → TxIn
spending sig sequence witness = record { prev = record { txid = replicate 32 7; vout = 0 }; script_sig = sig; sequence = sequence; witness = witness }

abbrev paying : ℕ → TxOut
paying v = record { value = v; script = 0x51 ∷ [] }

abbrev transaction : List TxIn → List TxOut → ℕ → Tx
transaction inputs outputs lock = record { version = 2; inputs = inputs; outputs = outputs; lock = lock }

abbrev final : ℕ
final = 4294967295

abbrev bound : ℕ
bound = 4294967294

abbrev plain : TxIn
plain = spending [] final []

abbrev one : List TxIn → ℕ → Tx
one inputs v = transaction inputs (paying v ∷ []) 0

no_input : verdict toy [] chain (transaction [] (paying 1 ∷ []) 0) ≡ Refused NoInput
no_input = refl

no_output : verdict toy [] chain (transaction (plain ∷ []) [] 0) ≡ Refused NoOutput
no_output = refl

repeated : verdict toy [] chain (one (plain ∷ plain ∷ []) 10) ≡ Refused InputRepeated
repeated = refl

missing : verdict toy [] chain (one (record {
  prev = record { txid = replicate 32 8; vout = 0 };
  script_sig = [];
  sequence = final;
  witness = [];
} ∷ []) 10) ≡ Refused (MissingInput 0)
missing = refl

too_much : verdict toy [] chain (one (plain ∷ []) 2100000000000001) ≡ Refused ValueLimit
too_much = refl

too_little : verdict toy [] chain (one (plain ∷ []) 11) ≡ Refused InsufficientIn
too_little = refl

not_reached : verdict toy [] chain (transaction (spending [] bound [] ∷ []) (paying 10 ∷ []) 1) ≡ Refused NotFinal
not_reached = refl

no_height : verdict toy [] chain (transaction (spending [] bound [] ∷ []) (paying 10 ∷ []) 500000000) ≡ Refused NotFinal
no_height = refl

with_script_sig : verdict toy [] chain (one (spending (0 ∷ []) final [] ∷ []) 10) ≡ Refused (ScriptSigNotEmpty 0)
with_script_sig = refl

no_witness : verdict toy [] chain (one (plain ∷ []) 10) ≡ Refused (NotWitnessScript 0)
unfolding label_text
no_witness = refl

another_script : verdict toy [] chain (one (spending [] final ((0x51 ∷ []) ∷ []) ∷ []) 10) ≡ Refused (ScriptMismatch 0)
unfolding label_text
another_script = refl

long_item : verdict toy [] chain (one (spending [] final (replicate 521 1 ∷ deposit_script key ∷ []) ∷ []) 10) ≡ Refused (ItemTooLong 0)
unfolding label_text
long_item = refl

abbrev late : List (List ℕ) → Tx
late witness = transaction (spending [] final witness ∷ []) (paying 10 ∷ []) 500000000

abbrev signed : List ℕ
signed = digest toy (late []) (spending [] final []) (deposit_script key) 10

unsigned : verdict toy [] chain (late (signature_of key signed ∷ deposit_script key ∷ [])) ≡ Refused (ScriptFalse 0)
unfolding label_text script_meaning ops_of preimage compact places_list sequences_list outputs_list item_of_number signed_bytes number_of_item
unsigned = refl

accepted : verdict toy ((key, signed) ∷ []) chain (late (signature_of key signed ∷ deposit_script key ∷ [])) ≡ Accepted (0 ∷ []) (1 ∷ [])
unfolding label_text script_meaning ops_of preimage compact places_list sequences_list outputs_list item_of_number signed_bytes number_of_item
accepted = refl
