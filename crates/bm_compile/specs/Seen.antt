-- What the check of a contract, and the binding of its deposits, see to at each of its nodes and in each of its transactions.
use Rattle.std.specs.Prelude.{ℕ, ◌+◌, List, [], length, Bool, true, nat_le, is_some}
use Rattle.std.specs.List.{list_all}
use Rattle.spec_data.specs.Lists.{look_up}
use Rattle.spec_data.specs.Ranges.{max_money}
use Rattle.spec_terms.specs.declared.path.PathStep.{PathStep}
use Rattle.spec_bitcoin.specs.declared.tx.OutPoint.{OutPoint}
use Rattle.spec_compiler.specs.declared.unsigned.Unsigned.{Unsigned}
use Rattle.spec_nodes.specs.Nodes.{Deed, puts_reveals, withdraws, splits, Node, choice_node, branch_node}
use Rattle.theory_nodes.specs.Walk.{deed_puts}
use Rattle.theory_script.specs.Money.{paid_in}

-- whether the deposit of this name is bound
abbrev pub is_bound : List (List ℕ × OutPoint) → List ℕ → Bool
is_bound bound name = is_some (look_up name bound)

-- the parts of a split, each with its value in satoshi and the number of its choice
abbrev pub deed_parts : Deed → List (ℕ × ℕ)
deed_parts (puts_reveals puts reveals test next) = []
deed_parts (withdraws party) = []
deed_parts (splits parts) = parts

-- whether each deposit that a branch puts is bound
abbrev pub has_bound_puts : List (List ℕ × OutPoint) → Node → Bool
has_bound_puts bound (choice_node position branches) = true
has_bound_puts bound (branch_node path asked height deed) = list_all (is_bound bound) (deed_puts deed)

-- whether a branch has no more parts than a contract has nodes
abbrev pub has_few_parts : Node → Bool
has_few_parts (choice_node position branches) = true
has_few_parts (branch_node path asked height deed) = nat_le (length (deed_parts deed)) 1024

-- whether a transaction spends no more than a position can hold, and a fee; both are at most all money
abbrev pub is_payable : List PathStep × Unsigned → Bool
is_payable p = nat_le (paid_in p.1) (max_money + max_money)
