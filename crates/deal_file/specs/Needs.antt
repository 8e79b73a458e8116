-- What is needed of keys, party by party and node by node.
use Rattle.std.specs.Prelude.{ℕ, List, [], map}
use Rattle.spec_terms.specs.declared.path.PathStep.{PathStep}
use Rattle.spec_bitcoin.specs.declared.label.Label.TheVariants as labels
use Rattle.spec_compiler.specs.Keyed.Instance.{branch_label}
use Rattle.spec_nodes.specs.Nodes.{Node, choice_node, branch_node}
use Rattle.spec_deal.specs.declared.deal.Needed.{Needed}
use Rattle.spec_deal.specs.declared.deal.Needed.TheVariants as needs
use Rattle.spec_deal.specs.Needed.{deal_contract}

-- the key of a party's deposits
abbrev pub party_need : List ℕ → Needed
party_need party = needs.Key (labels.Deposit party)

-- the key of a party for the branch at a path
abbrev pub path_need : List PathStep → List ℕ → Needed
path_need path party = needs.Key (branch_label deal_contract path party)

abbrev pub path_needs : List (List ℕ) → List PathStep → List Needed
path_needs parties path = map (path_need path) parties

-- those of a node, if it is a branch
abbrev pub node_needs : List (List ℕ) → Node → List Needed
node_needs parties (choice_node position branches) = []
node_needs parties (branch_node path asked height deed) = path_needs parties path
