-- The strings that are hashed when a contract is compiled, in their order: those of its keys, scripts, txids and digests (BIP 143).
-- The key plan hashes the text of a label to have its key; a key that is given has nothing hashed.
use Rattle.std.specs.Prelude.{ℕ, List, [], ◌++◌, map}
use Rattle.std.specs.List.{flat_map}
use Rattle.spec_terms.specs.declared.path.PathStep.{PathStep}
use Rattle.spec_bitcoin.specs.declared.tx.Tx.{Tx}
use Rattle.spec_bitcoin.specs.Keys.{label_text}
use Rattle.spec_bitcoin.specs.Digests.{txid_strings, shared_strings, digest_strings}
use Rattle.spec_compiler.specs.Keyed.Keys.{Keys, by_plan, given}
use Rattle.spec_compiler.specs.Keyed.Instance.{Instance, people, branch_label}
use Rattle.spec_compiler.specs.declared.unsigned.Spent.{Spent}
use Rattle.spec_compiler.specs.declared.unsigned.Unsigned.{Unsigned}
use Rattle.spec_compiler.specs.Keyed.Transactions.{input_of, tx_of, initial_unsigned}
use Rattle.spec_compiler.specs.Keyed.Compilation.{path_transactions, scripts}

-- the texts of the labels of a path's keys
abbrev pub path_labels : Instance → List PathStep → List (List ℕ)
path_labels s path = map (λ party. label_text (branch_label s.contract path party)) (people s)

-- what is hashed to have the keys of a path
abbrev pub key_strings : Keys → Instance → List PathStep → List (List ℕ)
key_strings by_plan s path = path_labels s path
key_strings (given keys own) s path = []

-- the strings of the digest of the input that spends this
abbrev pub spent_strings : (List ℕ → List ℕ) → Tx → Spent → List (List ℕ)
spent_strings hash tx spent = digest_strings hash tx (input_of spent) spent.script spent.value

-- the strings of a transaction: of its txid, of its three lists, and of the digest of each input
abbrev pub unsigned_strings : (List ℕ → List ℕ) → Unsigned → List (List ℕ)
unsigned_strings hash d =
    txid_strings hash (tx_of d) ++ (shared_strings hash (tx_of d) ++ flat_map (spent_strings hash (tx_of d)) d.spends)

-- the strings of the keys by path, the scripts by position, and the strings of the initial transaction and of each path's
abbrev pub compiled_strings : (List ℕ → List ℕ) → Keys → Instance → List (List ℕ)
compiled_strings hash keys s =
    flat_map (λ p. key_strings keys s p.0) (path_transactions hash keys s)
    ++ (map (λ p. p.1) (scripts hash keys s) ++ (unsigned_strings hash (initial_unsigned hash keys s)
    ++ flat_map (λ p. unsigned_strings hash p.1) (path_transactions hash keys s)))
