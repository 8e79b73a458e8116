-- A compiled contract with its numbered nodes, and what is found in it by a node's number.
use Rattle.std.specs.Prelude.{◌≡◌, ℕ, ◌+◌, Bool, true, false, not, if◌then◌else◌, List, [], ◌∷◌, map, Option, Some, None, option_map, slice_get}
use Rattle.spec_terms.specs.Advert.{Advert}
use Rattle.spec_terms.specs.Paths.{path_eq}
use Rattle.spec_terms.specs.declared.path.PathStep.{PathStep}
use Rattle.spec_bitcoin.specs.declared.tx.OutPoint.{OutPoint}
use Rattle.spec_compiler.specs.declared.prepared.Prepared.{Prepared}
use Rattle.spec_compiler.specs.Instance.{Instance, branch_keys}
use Rattle.spec_compiler.specs.Compilation.{compilation}
use Rattle.spec_compiler.specs.ByPath.{prepared_at, position_at}
use Rattle.spec_nodes.specs.Nodes.{Node, choice_node, branch_node, nodes_of}
use Rattle.theory_script.specs.Listed.{at_path}

-- a contract of this number with the places of its deposits and the committed digests of its secrets
abbrev pub instance_with : ℕ → Advert → List (List ℕ × OutPoint) → List (List ℕ × List ℕ) → Instance
instance_with contract advert bound hashes = record { contract = contract; advert = advert; bound = bound; hashes = hashes }

-- a contract's nodes, its initial transaction, the transaction of each path, the script of each position, and each participant's key of
-- each path, in the order of the transactions
pub record Numbered : Type 0 where
  pub nodes : List Node
  pub init : Prepared
  pub paths : List (List PathStep × Prepared)
  pub scripts : List (List PathStep × List ℕ)
  pub keys : List (List (List ℕ))

-- what a contract is compiled to
abbrev pub numbered : (List ℕ → List ℕ) → Instance → Numbered
numbered hash s = record {
  nodes = nodes_of s.advert.root;
  init = (compilation hash s).init;
  paths = (compilation hash s).paths;
  scripts = (compilation hash s).scripts;
  keys = map (λ p. branch_keys hash s p.0) (compilation hash s).paths;
}

-- ---- by a node

-- what a list of transactions has for the path of a branch's node
abbrev pub transaction_of : List (List PathStep × Prepared) → Node → Option Prepared
transaction_of paths (choice_node position branches) = None
transaction_of paths (branch_node path asked height deed) = at_path path paths

-- what a list of scripts has for the position of a choice's node
abbrev pub script_of : List (List PathStep × List ℕ) → Node → Option (List ℕ)
script_of scripts (choice_node position branches) = at_path position scripts
script_of scripts (branch_node path asked height deed) = None

-- the transaction that a branch's node is compiled to
abbrev pub compiled_transaction : (List ℕ → List ℕ) → Instance → Node → Option Prepared
compiled_transaction hash s (choice_node position branches) = None
compiled_transaction hash s (branch_node path asked height deed) = prepared_at hash s path

-- the script that the output of a position asks for
abbrev pub script_at : (List ℕ → List ℕ) → Instance → List PathStep → Option (List ℕ)
script_at hash s position = option_map (λ p. p.0.output.script) (position_at hash s position)

-- the script that a choice's node is compiled to
abbrev pub compiled_script : (List ℕ → List ℕ) → Instance → Node → Option (List ℕ)
compiled_script hash s (choice_node position branches) = script_at hash s position
compiled_script hash s (branch_node path asked height deed) = None

-- each path beside its keys, of which a list has one row for each transaction
abbrev pub keyed_paths : List (List PathStep × Prepared) → List (List (List ℕ)) → List (List PathStep × List (List ℕ))
keyed_paths [] table = []
keyed_paths (p ∷ ps) [] = []
keyed_paths (p ∷ ps) (row ∷ rows) = (p.0, row) ∷ keyed_paths ps rows

-- what a list of keys has for the path of a branch's node
abbrev pub keys_of : List (List PathStep × Prepared) → List (List (List ℕ)) → Node → Option (List (List ℕ))
keys_of paths table (choice_node position branches) = None
keys_of paths table (branch_node path asked height deed) = at_path path (keyed_paths paths table)

-- whether a node is the branch at this path
abbrev pub is_branch_at : List PathStep → Node → Bool
is_branch_at path (choice_node position branches) = false
is_branch_at path (branch_node known asked height deed) = path_eq known path

-- ---- the tables by which they are found

-- what stands at this place of a list, nothing without a place
abbrev pub value_at : {V : Type 0} → List (List PathStep × V) → Option ℕ → Option V
value_at es None = None
value_at es (Some k) = option_map (λ e. e.1) (slice_get es k)

-- the row at this place of a list of keys, none without a place
abbrev pub row_at : List (List (List ℕ)) → Option ℕ → Option (List (List ℕ))
row_at table None = None
row_at table (Some k) = slice_get table k

-- the places lead each branch's node to its transaction and its keys, and each choice's node to its script
pub record IsIndexed (nodes : List Node) (paths : List (List PathStep × Prepared)) (scripts : List (List PathStep × List ℕ))
    (table : List (List (List ℕ))) (branches choices : List (Option ℕ)) : Type 0 where
  pub transactions : map (value_at paths) branches ≡ map (transaction_of paths) nodes
  pub rows : map (row_at table) branches ≡ map (keys_of paths table) nodes
  pub outputs : map (value_at scripts) choices ≡ map (script_of scripts) nodes

-- whether a node is a branch's, or where `branch` is false, a choice's
abbrev pub is_kind : Bool → Node → Bool
is_kind branch (choice_node position branches) = not branch
is_kind branch (branch_node path asked height deed) = branch

-- where a node stands
abbrev pub path_of : Node → List PathStep
path_of (choice_node position branches) = position
path_of (branch_node path asked height deed) = path

-- the paths of the nodes of a kind
abbrev pub named : Bool → List Node → List (List PathStep)
named branch [] = []
named branch (n ∷ ns) = if is_kind branch n then path_of n ∷ named branch ns else named branch ns

-- for each node its place among those of the kind, of which the first has place k; none for one of the other kind
abbrev pub places_from : Bool → ℕ → List Node → List (Option ℕ)
places_from branch k [] = []
places_from branch k (n ∷ ns) = if is_kind branch n then Some k ∷ places_from branch (k + 1) ns else None ∷ places_from branch k ns

-- ---- keys

-- of the keys of all nodes, those of the branches' nodes
abbrev pub keys_of_branches : List Node → List (List (List ℕ)) → List (List (List ℕ))
keys_of_branches [] table = []
keys_of_branches (n ∷ ns) [] = []
keys_of_branches (n ∷ ns) (k ∷ ks) = if is_kind true n then k ∷ keys_of_branches ns ks else keys_of_branches ns ks
