-- Whom a contract pays, node by node.
use Rattle.std.specs.Prelude.{ℕ, List, [], ◌∷◌}
use Rattle.spec_nodes.specs.Nodes.{Deed, puts_reveals, withdraws, splits, Node, choice_node, branch_node}

-- whom a branch pays that does this
abbrev pub deed_paid : Deed → List (List ℕ)
deed_paid (puts_reveals puts reveals test next) = []
deed_paid (withdraws party) = party ∷ []
deed_paid (splits parts) = []

-- whom a node pays, if it is a branch
abbrev pub node_paid : Node → List (List ℕ)
node_paid (choice_node position branches) = []
node_paid (branch_node path asked height deed) = deed_paid deed
