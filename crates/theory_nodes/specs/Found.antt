-- What is claimed of a contract's numbered nodes: which number a path leads to, and how many there are.
use Rattle.std.specs.Prelude.{◌≤◌, List}
use Rattle.spec_terms.specs.Term.{Contract}
use Rattle.spec_terms.specs.Advert.{Advert}
use Rattle.spec_terms.specs.Paths.{at, contract_under}
use Rattle.spec_terms.specs.Faults.{IsWellFormed}
use Rattle.spec_terms.specs.declared.path.PathStep.{PathStep}
use Rattle.spec_nodes.specs.Nodes.{nodes_of, choice_count}
use Rattle.spec_nodes.specs.Numbers.{number_at, choice_number_at, IsBranchOf, IsChoiceOf}

-- at every path, the number's node is that of the branch there, and there is none where the contract has none
abbrev pub BranchesAreFound : Type 0
BranchesAreFound =
    (root : Contract) (path : List PathStep) → IsBranchOf (nodes_of root) path (number_at (nodes_of root) path) (at root path)

-- at every position, the number's node is that of the choice there, and there is none where the contract has none
abbrev pub ChoicesAreFound : Type 0
ChoicesAreFound = (root : Contract) (position : List PathStep)
    → IsChoiceOf (nodes_of root) position (choice_number_at (nodes_of root) position) (contract_under root position)

-- a checked contract has at most 1,024 nodes: two for each of its 512 branches
abbrev pub FewNodes : Type 0
FewNodes = (a : Advert) → IsWellFormed a → choice_count a.root ≤ 1024
