-- The transactions of a contract, made in one walk over its numbered nodes, and what is claimed of that walk, by the key that each
-- label has.
use Rattle.std.specs.Prelude.{◌≡◌, ℕ, ◌+◌, ◌-◌, List, [], ◌∷◌, ◌++◌, length, map, replicate, Option, Some, None, slice_get}
use Rattle.spec_terms.specs.Term.{always}
use Rattle.spec_terms.specs.declared.path.PathStep.{PathStep}
use Rattle.spec_bitcoin.specs.declared.tx.TxOut.{TxOut}
use Rattle.spec_bitcoin.specs.Scripts.{encode}
use Rattle.spec_compiler.specs.Keyed.Keys.{Keys}
use Rattle.spec_compiler.specs.Scripts.{Demands, demands, output_ops}
use Rattle.spec_compiler.specs.declared.unsigned.Spent.{Spent}
use Rattle.spec_compiler.specs.declared.unsigned.Unsigned.{Unsigned}
use Rattle.spec_compiler.specs.Keyed.Instance.{Instance, branch_keys}
use Rattle.spec_compiler.specs.Keyed.Transactions.{pays, pays_party, put_deposits, continued_value, output_outpoint, initial_unsigned}
use Rattle.spec_compiler.specs.Keyed.Transactions.{root_value}
use Rattle.spec_compiler.specs.Keyed.Compilation.{path_transactions, scripts}
use Rattle.theory_nodes.specs.declared.waiting.Waiting.{Waiting}
use Rattle.spec_nodes.specs.Nodes.{Deed, puts_reveals, withdraws, splits, Node, choice_node, branch_node, nodes_of}

-- ---- the script of a choice, by its number

abbrev pub deed_demands : Deed → List (List ℕ) → List (List ℕ × List ℕ) → Demands
deed_demands (puts_reveals puts reveals test next) keys hashes = demands reveals test keys hashes
deed_demands (withdraws party) keys hashes = demands [] always keys hashes
deed_demands (splits parts) keys hashes = demands [] always keys hashes

abbrev pub node_demands : (List ℕ → List ℕ) → Keys → Instance → Option Node → Demands
node_demands hash keys s None = demands [] always [] []
node_demands hash keys s (Some (choice_node position branches)) = demands [] always [] []
node_demands hash keys s (Some (branch_node path asked height deed)) = deed_demands deed (branch_keys hash keys s path) s.hashes

abbrev pub node_script : (List ℕ → List ℕ) → Keys → Instance → List Node → Option Node → List ℕ
node_script hash keys s nodes None = []
node_script hash keys s nodes (Some (branch_node path asked height deed)) = []
node_script hash keys s nodes (Some (choice_node position branches)) =
    encode (output_ops (map (λ m. node_demands hash keys s (slice_get nodes m)) branches))

unfoldable pub script_of : (List ℕ → List ℕ) → Keys → Instance → List Node → ℕ → List ℕ
script_of hash keys s nodes n = node_script hash keys s nodes (slice_get nodes n)

-- ---- the walk

abbrev pub spent_of : (ℕ → List ℕ) → Waiting → Spent
spent_of script w = record { outpoint = w.outpoint; script = script w.choice; value = w.value }

abbrev pub deed_puts : Deed → List (List ℕ)
deed_puts (puts_reveals puts reveals test next) = puts
deed_puts (withdraws party) = []
deed_puts (splits parts) = []

abbrev pub deed_outputs : (List ℕ → List ℕ) → Keys → Instance → (ℕ → List ℕ) → ℕ → Deed → List TxOut
deed_outputs hash keys s script balance (puts_reveals puts reveals test next) =
    pays hash (script next) (continued_value s balance puts) ∷ []
deed_outputs hash keys s script balance (withdraws party) = pays_party hash keys party (balance - s.advert.fee) ∷ []
deed_outputs hash keys s script balance (splits parts) = map (λ p. pays hash (script p.1) p.0) parts

-- the transaction of a branch's node, at a choice that waits
abbrev pub node_unsigned : (List ℕ → List ℕ) → Keys → Instance → (ℕ → List ℕ) → Waiting → ℕ → Deed → Unsigned
node_unsigned hash keys s script w height deed = record {
  spends = spent_of script w ∷ put_deposits hash keys s (deed_puts deed);
  outputs = deed_outputs hash keys s script w.value deed;
  lock = height;
}

abbrev pub parts_wait : (List ℕ → List ℕ) → Unsigned → ℕ → List (ℕ × ℕ) → List Waiting
parts_wait hash d k [] = []
parts_wait hash d k (p ∷ ps) = record { outpoint = output_outpoint hash d k; choice = p.1; value = p.0 } ∷ parts_wait hash d (k + 1) ps

-- the choices that wait once the branch's transaction is made
abbrev pub deed_waits : (List ℕ → List ℕ) → Instance → Unsigned → ℕ → Deed → List Waiting
deed_waits hash s d balance (puts_reveals puts reveals test next) =
    record { outpoint = output_outpoint hash d 0; choice = next; value = continued_value s balance puts } ∷ []
deed_waits hash s d balance (withdraws party) = []
deed_waits hash s d balance (splits parts) = parts_wait hash d 0 parts

-- the transactions of these nodes by path; on top of the stack is what the next node waits for
abbrev pub walk : (List ℕ → List ℕ) → Keys → Instance → (ℕ → List ℕ) → List Node → List Waiting → List (List PathStep × Unsigned)
walk hash keys s script [] stack = []
walk hash keys s script (n ∷ ns) [] = []
walk hash keys s script (choice_node position branches ∷ ns) (w ∷ stack) =
    walk hash keys s script ns (replicate (length branches) w ++ stack)
walk hash keys s script (branch_node path asked height deed ∷ ns) (w ∷ stack) =
    (path, node_unsigned hash keys s script w height deed)
    ∷ walk hash keys s script ns (deed_waits hash s (node_unsigned hash keys s script w height deed) w.value deed ++ stack)

-- ---- the walk by steps

-- what waits after a node
abbrev pub next_stack : (List ℕ → List ℕ) → Keys → Instance → (ℕ → List ℕ) → Node → List Waiting → List Waiting
next_stack hash keys s script n [] = []
next_stack hash keys s script (choice_node position branches) (w ∷ stack) = replicate (length branches) w ++ stack
next_stack hash keys s script (branch_node path asked height deed) (w ∷ stack) =
    deed_waits hash s (node_unsigned hash keys s script w height deed) w.value deed ++ stack

-- the transaction that a node makes, if it makes one
abbrev pub made_by : (List ℕ → List ℕ) → Keys → Instance → (ℕ → List ℕ) → Node → List Waiting → List (List PathStep × Unsigned)
made_by hash keys s script n [] = []
made_by hash keys s script (choice_node position branches) (w ∷ stack) = []
made_by hash keys s script (branch_node path asked height deed) (w ∷ stack) = (path, node_unsigned hash keys s script w height deed) ∷ []

-- the root, which waits from the initial transaction on
abbrev pub root_waits : (List ℕ → List ℕ) → Keys → Instance → Waiting
root_waits hash keys s = record { outpoint = output_outpoint hash (initial_unsigned hash keys s) 0; choice = 0; value = root_value s }

-- ---- lists over the nodes

-- the paths of the branches
abbrev pub node_paths : List Node → List (List PathStep)
node_paths [] = []
node_paths (choice_node position branches ∷ ns) = node_paths ns
node_paths (branch_node path asked height deed ∷ ns) = path ∷ node_paths ns

-- each position with the script of its choice, where the nodes are numbered from n on
abbrev pub listed_scripts : (ℕ → List ℕ) → ℕ → List Node → List (List PathStep × List ℕ)
listed_scripts script n [] = []
listed_scripts script n (choice_node position branches ∷ ns) = (position, script n) ∷ listed_scripts script (n + 1) ns
listed_scripts script n (branch_node path asked height deed ∷ ns) = listed_scripts script (n + 1) ns

-- ---- the statements

-- the walk from the root makes exactly the transactions of the contract, in the order of its text
abbrev pub NodesGiveTransactions : Type 0
NodesGiveTransactions =
    (hash : List ℕ → List ℕ) (keys : Keys) (s : Instance)
    → walk hash keys s (script_of hash keys s (nodes_of s.advert.root)) (nodes_of s.advert.root) (root_waits hash keys s ∷ [])
    ≡ path_transactions hash keys s

-- the branches among the nodes are the paths of these transactions, in the same order
abbrev pub NodesGivePaths : Type 0
NodesGivePaths =
    (hash : List ℕ → List ℕ) (keys : Keys) (s : Instance)
    → node_paths (nodes_of s.advert.root) ≡ map (λ p. p.0) (path_transactions hash keys s)

-- the choices among the nodes are the positions with their scripts, in the same order
abbrev pub NodesGiveScripts : Type 0
NodesGiveScripts =
    (hash : List ℕ → List ℕ) (keys : Keys) (s : Instance)
    → listed_scripts (script_of hash keys s (nodes_of s.advert.root)) 0 (nodes_of s.advert.root) ≡ scripts hash keys s
