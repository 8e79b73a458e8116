-- The transactions of a contract, made in one walk over its numbered nodes, and what is claimed of that walk, by the key plan.
use Rattle.std.specs.Prelude.{◌≡◌, ℕ, List, [], ◌∷◌, map, Option}
use Rattle.spec_terms.specs.declared.path.PathStep.{PathStep}
use Rattle.spec_bitcoin.specs.declared.tx.TxOut.{TxOut}
use Rattle.spec_compiler.specs.Keyed.Keys.{by_plan}
use Rattle.spec_compiler.specs.Scripts.{Demands}
use Rattle.spec_compiler.specs.declared.unsigned.Unsigned.{Unsigned}
use Rattle.spec_compiler.specs.Instance.{Instance}
use Rattle.spec_compiler.specs.Compilation.{path_transactions, scripts}
use Rattle.theory_nodes.specs.declared.waiting.Waiting.{Waiting}
use Rattle.spec_nodes.specs.Nodes.{Deed, Node, nodes_of}
use Rattle.theory_nodes.specs.Keyed.Walk as keyed
pub use Rattle.theory_nodes.specs.Keyed.Walk.{deed_demands, spent_of, deed_puts, parts_wait, deed_waits, node_paths, listed_scripts}

-- ---- the script of a choice, by its number

abbrev pub node_demands : (List ℕ → List ℕ) → Instance → Option Node → Demands
node_demands hash = keyed.node_demands hash by_plan

abbrev pub node_script : (List ℕ → List ℕ) → Instance → List Node → Option Node → List ℕ
node_script hash = keyed.node_script hash by_plan

abbrev pub script_of : (List ℕ → List ℕ) → Instance → List Node → ℕ → List ℕ
script_of hash = keyed.script_of hash by_plan

-- ---- the walk

abbrev pub deed_outputs : (List ℕ → List ℕ) → Instance → (ℕ → List ℕ) → ℕ → Deed → List TxOut
deed_outputs hash = keyed.deed_outputs hash by_plan

abbrev pub node_unsigned : (List ℕ → List ℕ) → Instance → (ℕ → List ℕ) → Waiting → ℕ → Deed → Unsigned
node_unsigned hash = keyed.node_unsigned hash by_plan

abbrev pub walk : (List ℕ → List ℕ) → Instance → (ℕ → List ℕ) → List Node → List Waiting → List (List PathStep × Unsigned)
walk hash = keyed.walk hash by_plan

abbrev pub next_stack : (List ℕ → List ℕ) → Instance → (ℕ → List ℕ) → Node → List Waiting → List Waiting
next_stack hash = keyed.next_stack hash by_plan

abbrev pub made_by : (List ℕ → List ℕ) → Instance → (ℕ → List ℕ) → Node → List Waiting → List (List PathStep × Unsigned)
made_by hash = keyed.made_by hash by_plan

abbrev pub root_waits : (List ℕ → List ℕ) → Instance → Waiting
root_waits hash = keyed.root_waits hash by_plan

-- ---- the statements

-- the walk from the root makes exactly the transactions of the contract, in the order of its text
abbrev pub NodesGiveTransactions : Type 0
NodesGiveTransactions =
    (hash : List ℕ → List ℕ) (s : Instance)
    → walk hash s (script_of hash s (nodes_of s.advert.root)) (nodes_of s.advert.root) (root_waits hash s ∷ []) ≡ path_transactions hash s

-- the branches among the nodes are the paths of these transactions, in the same order
abbrev pub NodesGivePaths : Type 0
NodesGivePaths = (hash : List ℕ → List ℕ) (s : Instance) → node_paths (nodes_of s.advert.root) ≡ map (λ p. p.0) (path_transactions hash s)

-- the choices among the nodes are the positions with their scripts, in the same order
abbrev pub NodesGiveScripts : Type 0
NodesGiveScripts =
    (hash : List ℕ → List ℕ) (s : Instance)
    → listed_scripts (script_of hash s (nodes_of s.advert.root)) 0 (nodes_of s.advert.root) ≡ scripts hash s
