-- What a transaction is to the contracts, by what these are compiled to and by the outputs that were made.
use Rattle.std.specs.Prelude.{ℕ, List, [], ◌∷◌, ◌++◌, Option, Some, None, slice_get}
use Rattle.std.specs.Option.{option_and_then}
use Rattle.spec_terms.specs.declared.path.PathStep.{PathStep}
use Rattle.spec_terms.specs.declared.path.PathStep.TheVariants.{Part as Into}
use Rattle.spec_nodes.specs.Nodes.{Deed, puts_reveals, withdraws, splits, Node, choice_node, branch_node}
use Rattle.spec_nodes.specs.Numbers.{number_at, choice_number_at}
use Rattle.spec_run.specs.World.{ContractPosition, Output, live_position}
use Rattle.spec_run.specs.Ledger.{position_path}
use Rattle.bm_compile.specs.Numbered.{Numbered}
use Rattle.bm_match.specs.declared.found.Match.{Match}
use Rattle.bm_match.specs.declared.found.Match.TheVariants.{Init, Branch, Move}
use Rattle.bm_match.specs.declared.found.Active.{Active}
use Rattle.bm_world_board.specs.Compiling.{compiled_at}

-- ---- the output that is spent

-- the number of the choice at a position of what a contract is compiled to
abbrev pub choice_at : Option Numbered → List PathStep → Option ℕ
choice_at None position = None
choice_at (Some n) position = choice_number_at n.nodes position

-- what is held by the output of this number, where its choice has a number
abbrev pub active_by : ContractPosition → ℕ → Option ℕ → Option Active
active_by held number None = None
active_by held number (Some node) = Some (record { contract = held.contract; output = number; node = node })

-- what the output of this number holds, if it is a live contract's
abbrev pub active_in : List (Option Numbered) → ℕ → Option ContractPosition → Option Active
active_in compiled number None = None
active_in compiled number (Some held) = active_by held number (choice_at (compiled_at compiled held.contract) held.position)

-- the same of the first of the outputs of these numbers
abbrev pub active_first : List (Option Numbered) → List Output → List ℕ → Option Active
active_first compiled outputs [] = None
active_first compiled outputs (n ∷ ns) = active_in compiled n (live_position (slice_get outputs n))

-- ---- the outputs that are made

-- what output k of a branch's transaction holds, where the branch has this path and does this
abbrev pub deed_holds : ℕ → List PathStep → Deed → ℕ → Option ContractPosition
deed_holds contract path (puts_reveals puts reveals test next) k = Some (record { contract = contract; position = path })
deed_holds contract path (withdraws party) k = None
deed_holds contract path (splits parts) k = Some (record { contract = contract; position = path ++ Into k ∷ [] })

-- the same by the branch's node
abbrev pub node_holds : ℕ → Option Node → ℕ → Option ContractPosition
node_holds contract None k = None
node_holds contract (Some (choice_node position branches)) k = None
node_holds contract (Some (branch_node path asked height deed)) k = deed_holds contract path deed k

-- the node of the branch at a path of what a contract is compiled to
abbrev pub branch_node_at : Option Numbered → List PathStep → Option Node
branch_node_at None path = None
branch_node_at (Some n) path = option_and_then (slice_get n.nodes) (number_at n.nodes path)

-- what output k of the transaction of this branch of what is held holds
abbrev pub branch_holds : List (Option Numbered) → ℕ → Option ContractPosition → ℕ → Option ContractPosition
branch_holds compiled branch None k = None
branch_holds compiled branch (Some held) k =
    node_holds held.contract (branch_node_at (compiled_at compiled held.contract) (position_path held branch)) k

-- what output k of a transaction holds that is this to the contracts
abbrev pub match_holds : List (Option Numbered) → List Output → Match → ℕ → Option ContractPosition
match_holds compiled outputs (Init contract) k = Some (record { contract = contract; position = [] })
match_holds compiled outputs (Branch contract output branch) k = branch_holds compiled branch (live_position (slice_get outputs output)) k
match_holds compiled outputs Move k = None

-- the contract that begins by such a transaction
abbrev pub match_begins : Match → Option ℕ
match_begins (Init contract) = Some contract
match_begins (Branch contract output branch) = None
match_begins Move = None
