-- What the nodes of branches say of the branches at their paths.
use Rattle.std.specs.Prelude.{◌≡◌, List, [], ◌∷◌, Some}
use Rattle.spec_terms.specs.Term.{Contract}
use Rattle.spec_terms.specs.Paths.{at}
use Rattle.spec_nodes.specs.Nodes.{Node, choice_node, branch_node}
use Rattle.theory_nodes.specs.Walk.{deed_puts}
use Rattle.bm_honest.specs.Unsigned.{seen_branch}

-- what a branch's node says is what is seen of the branch at its path
abbrev pub IsSeen : Contract → Node → Type 0
IsSeen root (choice_node position branches) = Unit {0}
IsSeen root (branch_node path asked height deed) = seen_branch (at root path) ≡ Some (asked, deed_puts deed)

abbrev pub AreSeen : Contract → List Node → Type 0
AreSeen root [] = Unit {0}
AreSeen root (n ∷ ns) = IsSeen root n × AreSeen root ns
