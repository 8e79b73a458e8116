-- The hashes that all inputs of a transaction share, and what an input signs by means of them; after BIP 143.
use Rattle.std.specs.Prelude.{ℕ, List, [], ◌++◌, slice_get}
use Rattle.std.specs.Option.{option_map_or}
use Rattle.spec_bitcoin.specs.declared.tx.TxIn.{TxIn}
use Rattle.spec_bitcoin.specs.declared.tx.Tx.{Tx}
use Rattle.spec_bitcoin.specs.Spelling.{word, long_word, sized, place_bytes}
use Rattle.spec_bitcoin.specs.Digests.{double, double_strings, places_list, sequences_list, outputs_list, digest_strings}
use Rattle.bm_sighash.specs.declared.list_hashes.ListHashes.{ListHashes}

-- the double hashes of the three lists
abbrev pub hashes_of : (List ℕ → List ℕ) → Tx → ListHashes
hashes_of hash tx =
    record { prevouts = double hash (places_list tx); sequences = double hash (sequences_list tx); outputs = double hash (outputs_list tx) }

-- what is hashed for the double hashes of three messages
abbrev pub strings_of : (List ℕ → List ℕ) → List ℕ → List ℕ → List ℕ → List (List ℕ)
strings_of hash a b c = double_strings hash a ++ double_strings hash b ++ double_strings hash c

-- what an input signs, where these are the hashes of the three lists
abbrev pub preimage_with : ListHashes → Tx → TxIn → List ℕ → ℕ → List ℕ
preimage_with shared tx input script value =
    word tx.version
    ++ shared.prevouts
    ++ shared.sequences
    ++ place_bytes input.prev
    ++ sized script
    ++ long_word value
    ++ word input.sequence
    ++ shared.outputs
    ++ word tx.lock
    ++ word 1

-- what is hashed for the digest of the input of this number, counted from 0; nothing where there is none
abbrev pub strings_at : (List ℕ → List ℕ) → Tx → ℕ → List ℕ → ℕ → List (List ℕ)
strings_at hash tx number script value = option_map_or (λ input. digest_strings hash tx input script value) (slice_get tx.inputs number) []
