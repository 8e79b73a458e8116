-- What is made of each node of a contract in turn when it is compiled, by the key that each label has, and what is hashed for it.
use Rattle.std.specs.Prelude.{ℕ, List, [], ◌∷◌, map, Bool, true, nat_le, slice_get, slice_index_or}
use Rattle.std.specs.List.{flat_map}
use Rattle.spec_data.specs.Ranges.{most_operations}
use Rattle.spec_terms.specs.Cost.{reveals_size}
use Rattle.spec_terms.specs.declared.path.PathStep.{PathStep}
use Rattle.spec_compiler.specs.declared.unsigned.Unsigned.{Unsigned}
use Rattle.spec_compiler.specs.Keyed.Keys.{Keys}
use Rattle.spec_compiler.specs.Keyed.Instance.{Instance, people, branch_label, branch_keys}
use Rattle.spec_compiler.specs.Keyed.Transactions.{pays, persistent_deposits, root_value}
use Rattle.spec_compiler.specs.Keyed.Hashed.{unsigned_strings}
use Rattle.spec_bitcoin.specs.Scripts.{encode}
use Rattle.spec_compiler.specs.Scripts.{output_ops}
use Rattle.spec_nodes.specs.Nodes.{Deed, puts_reveals, withdraws, splits, Node, choice_node, branch_node}
use Rattle.theory_nodes.specs.declared.waiting.Waiting.{Waiting}
use Rattle.theory_nodes.specs.Keyed.Walk.{node_demands}
use Rattle.bm_compile.specs.Keyed.Sources.{label_strings}

-- ---- keys

-- the keys of a branch's node
abbrev pub keys_of_node : (List ℕ → List ℕ) → Keys → Instance → Node → List (List ℕ)
keys_of_node hash keys s (choice_node position branches) = []
keys_of_node hash keys s (branch_node path asked height deed) = branch_keys hash keys s path

-- what is hashed to have the keys of a path, participant by participant
abbrev pub labels_of_path : Keys → Instance → List PathStep → List (List ℕ)
labels_of_path keys s path = flat_map (λ party. label_strings keys (branch_label s.contract path party)) (people s)

-- what is hashed to have those of a node
abbrev pub labels_of_node : Keys → Instance → Node → List (List ℕ)
labels_of_node keys s (choice_node position branches) = []
labels_of_node keys s (branch_node path asked height deed) = labels_of_path keys s path

-- ---- scripts

-- whether what a branch reveals counts no more operations than a script may have
abbrev pub are_short_reveals : Deed → Bool
are_short_reveals (puts_reveals puts reveals test next) = nat_le (reveals_size reveals test).operations most_operations
are_short_reveals (withdraws party) = true
are_short_reveals (splits parts) = true

abbrev pub has_short_reveals : Node → Bool
has_short_reveals (choice_node position branches) = true
has_short_reveals (branch_node path asked height deed) = are_short_reveals deed

-- the script of a position with branches of these numbers, where these are all nodes
abbrev pub choice_script : (List ℕ → List ℕ) → Keys → Instance → List Node → List ℕ → List ℕ
choice_script hash keys s nodes branches = encode (output_ops (map (λ m. node_demands hash keys s (slice_get nodes m)) branches))

-- the script of a node, nothing for a branch
abbrev pub script_of_node : (List ℕ → List ℕ) → Keys → Instance → List Node → Node → List ℕ
script_of_node hash keys s nodes (choice_node position branches) = choice_script hash keys s nodes branches
script_of_node hash keys s nodes (branch_node path asked height deed) = []

-- what is hashed of it
abbrev pub scripts_of_node : (List ℕ → List ℕ) → Keys → Instance → List Node → Node → List (List ℕ)
scripts_of_node hash keys s nodes (choice_node position branches) = choice_script hash keys s nodes branches ∷ []
scripts_of_node hash keys s nodes (branch_node path asked height deed) = []

-- the script of the choice of this number
abbrev pub listed_script : List (List ℕ) → ℕ → List ℕ
listed_script scripts n = slice_index_or scripts n []

-- ---- transactions

-- the initial transaction, by the script of the root
abbrev pub initial_with : (List ℕ → List ℕ) → Keys → Instance → List ℕ → Unsigned
initial_with hash keys s script = record {
  spends = persistent_deposits hash keys s;
  outputs = pays hash script (root_value s) ∷ [];
  lock = 0;
}

abbrev pub ready_strings : (List ℕ → List ℕ) → List PathStep × Unsigned → List (List ℕ)
ready_strings hash p = unsigned_strings hash p.1

-- the root, which waits from the initial transaction of this txid on
abbrev pub root_with : Instance → List ℕ → Waiting
root_with s txid = record { outpoint = record { txid = txid; vout = 0 }; choice = 0; value = root_value s }
