-- The number that a path leads to, by the numbered nodes of a contract alone.
use Rattle.std.specs.Prelude.{◌≡◌, ℕ, ◌+◌, List, [], ◌∷◌, Option, Some, None, option_map, option_and_then, slice_get}
use Rattle.spec_terms.specs.Term.{Guarded, Contract}
use Rattle.spec_terms.specs.declared.path.PathStep.{PathStep}
use Rattle.spec_terms.specs.declared.path.PathStep.TheVariants.{Branch as To, Part as Into}
use Rattle.spec_nodes.specs.Nodes.{Deed, puts_reveals, withdraws, splits, Node, choice_node, branch_node, choice_head, branch_head}

-- branch i of a choice
abbrev pub branch_number : Node → ℕ → Option ℕ
branch_number (choice_node position branches) i = slice_get branches i
branch_number (branch_node path asked height deed) i = None

-- one step below what a branch does
abbrev pub deed_step : List Node → Deed → PathStep → Option ℕ
deed_step nodes (puts_reveals puts reveals test next) (To i) = option_and_then (λ node. branch_number node i) (slice_get nodes next)
deed_step nodes (puts_reveals puts reveals test next) (Into k) = None
deed_step nodes (withdraws party) s = None
deed_step nodes (splits parts) (To i) = None
deed_step nodes (splits parts) (Into k) = option_map (λ p. p.1) (slice_get parts k)

-- one step below a node
abbrev pub node_step : List Node → Node → PathStep → Option ℕ
node_step nodes (choice_node position branches) (To i) = slice_get branches i
node_step nodes (choice_node position branches) (Into k) = None
node_step nodes (branch_node path asked height deed) s = deed_step nodes deed s

-- one step below the node of a number
unfoldable pub next_number : List Node → ℕ → PathStep → Option ℕ
next_number nodes n s = option_and_then (λ node. node_step nodes node s) (slice_get nodes n)

-- all these steps below it
abbrev pub number_from : List Node → ℕ → List PathStep → Option ℕ
number_from nodes n [] = Some n
number_from nodes n (s ∷ steps) = option_and_then (λ m. number_from nodes m steps) (next_number nodes n s)

-- the number itself, where its node is a branch
abbrev pub if_branch : ℕ → Node → Option ℕ
if_branch n (choice_node position branches) = None
if_branch n (branch_node path asked height deed) = Some n

-- the choice that a branch goes on with
abbrev pub deed_choice : Deed → Option ℕ
deed_choice (puts_reveals puts reveals test next) = Some next
deed_choice (withdraws party) = None
deed_choice (splits parts) = None

-- the choice at this node, or that its branch goes on with
abbrev pub if_choice : ℕ → Node → Option ℕ
if_choice n (choice_node position branches) = Some n
if_choice n (branch_node path asked height deed) = deed_choice deed

-- the number of the branch at a path
abbrev pub number_at : List Node → List PathStep → Option ℕ
number_at nodes path = option_and_then (λ n. option_and_then (if_branch n) (slice_get nodes n)) (number_from nodes 0 path)

-- the number of the choice at a position
abbrev pub choice_number_at : List Node → List PathStep → Option ℕ
choice_number_at nodes path = option_and_then (λ n. option_and_then (if_choice n) (slice_get nodes n)) (number_from nodes 0 path)

-- ---- numbers and terms

-- a number and a branch agree: neither is there, or the number's node is that of the branch
abbrev pub IsBranchOf : List Node → List PathStep → Option ℕ → Option Guarded → Type 0
IsBranchOf nodes path None None = Unit {0}
IsBranchOf nodes path (Some n) (Some b) = slice_get nodes n ≡ Some (branch_head path n b)
IsBranchOf nodes path None (Some b) = ⊥
IsBranchOf nodes path (Some n) None = ⊥

-- a number and a choice agree
abbrev pub IsChoiceOf : List Node → List PathStep → Option ℕ → Option Contract → Type 0
IsChoiceOf nodes position None None = Unit {0}
IsChoiceOf nodes position (Some n) (Some c) = slice_get nodes n ≡ Some (choice_head position n c)
IsChoiceOf nodes position None (Some c) = ⊥
IsChoiceOf nodes position (Some n) None = ⊥
