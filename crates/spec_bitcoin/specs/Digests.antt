-- The txid of a transaction, by BIP 141, and the digest that a signature signs, by BIP 143 with the hash type ALL; and the strings
-- that are hashed to make them, in order.
use Rattle.std.specs.Prelude.{ℕ, List, [], ◌∷◌, ◌++◌, slice_get}
use Rattle.std.specs.List.{flat_map}
use Rattle.std.specs.Option.{option_map_or}
use Rattle.spec_bitcoin.specs.declared.tx.TxIn.{TxIn}
use Rattle.spec_bitcoin.specs.declared.tx.TxOut.{TxOut}
use Rattle.spec_bitcoin.specs.declared.tx.Tx.{Tx}
use Rattle.spec_bitcoin.specs.Spelling.{word, long_word, sized, place_bytes, output_bytes, stripped}

-- the hash of the hash
abbrev pub double : (List ℕ → List ℕ) → List ℕ → List ℕ
double hash message = hash (hash message)

-- what a double hash hashes
abbrev pub double_strings : (List ℕ → List ℕ) → List ℕ → List (List ℕ)
double_strings hash message = message ∷ hash message ∷ []

-- ---- the txid

-- in the order of the hash's bytes; it is printed with its bytes reversed
abbrev pub txid : (List ℕ → List ℕ) → Tx → List ℕ
txid hash tx = double hash (stripped tx)

abbrev pub txid_strings : (List ℕ → List ℕ) → Tx → List (List ℕ)
txid_strings hash tx = double_strings hash (stripped tx)

-- ---- the three lists that all inputs of a transaction share

-- the places of all spent outputs
unfoldable pub places_list : Tx → List ℕ
places_list tx = flat_map (λ i. place_bytes i.prev) tx.inputs

-- the sequences of all inputs
unfoldable pub sequences_list : Tx → List ℕ
sequences_list tx = flat_map (λ i. word i.sequence) tx.inputs

-- all outputs, as in the transaction
unfoldable pub outputs_list : Tx → List ℕ
outputs_list tx = flat_map output_bytes tx.outputs

abbrev pub shared_strings : (List ℕ → List ℕ) → Tx → List (List ℕ)
shared_strings hash tx =
    double_strings hash (places_list tx) ++ double_strings hash (sequences_list tx) ++ double_strings hash (outputs_list tx)

-- ---- the digest

-- what an input's signature signs, for the script and the value of the output that it spends
unfoldable pub preimage : (List ℕ → List ℕ) → Tx → TxIn → List ℕ → ℕ → List ℕ
preimage hash tx input script value =
    word tx.version
    ++ double hash (places_list tx)
    ++ double hash (sequences_list tx)
    ++ place_bytes input.prev
    ++ sized script
    ++ long_word value
    ++ word input.sequence
    ++ double hash (outputs_list tx)
    ++ word tx.lock
    ++ word 1

abbrev pub digest : (List ℕ → List ℕ) → Tx → TxIn → List ℕ → ℕ → List ℕ
digest hash tx input script value = double hash (preimage hash tx input script value)

abbrev pub digest_strings : (List ℕ → List ℕ) → Tx → TxIn → List ℕ → ℕ → List (List ℕ)
digest_strings hash tx input script value = double_strings hash (preimage hash tx input script value)

-- the digest of the input of this number, counted from 0; nothing where there is none
abbrev pub digest_at : (List ℕ → List ℕ) → Tx → ℕ → List ℕ → ℕ → List ℕ
digest_at hash tx number script value = option_map_or (λ input. digest hash tx input script value) (slice_get tx.inputs number) []

-- ---- the opening transaction

-- the transaction that makes the first outputs, of nothing
abbrev pub opening_transaction : List TxOut → Tx
opening_transaction outputs = record { version = 2; inputs = []; outputs = outputs; lock = 0 }
