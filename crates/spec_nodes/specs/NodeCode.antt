-- Codes of nodes, by which a struct of code may have them as its value.
use Rattle.std.specs.Prelude.{◌≡◌, ◌⊎◌, ℕ, List, refl}
use Rattle.std.proofs.Common.{inl, inr}
use Rattle.std.specs.Coded.{Coded, code_by, coded×, coded⊎, coded_ℕ, coded_list}
use Rattle.spec_terms.specs.Term.{Pred}
use Rattle.spec_terms.specs.TermCode.{coded_name, coded_names, coded_test}
use Rattle.spec_terms.specs.declared.path.PathStep.{PathStep}
use Rattle.spec_nodes.specs.Nodes.{Deed, puts_reveals, withdraws, splits, Node, choice_node, branch_node}

abbrev pub Deeds : Type 0
Deeds = (List (List ℕ) × (List (List ℕ) × (Pred × ℕ))) ⊎ (List ℕ ⊎ List (ℕ × ℕ))

abbrev pub deed_cases : Deed → Deeds
deed_cases (puts_reveals puts reveals test next) = inl (puts, (reveals, (test, next)))
deed_cases (withdraws party) = inr (inl party)
deed_cases (splits parts) = inr (inr parts)

abbrev pub deed_from : Deeds → Deed
deed_from (inl p) = puts_reveals p.0 p.1.0 p.1.1.0 p.1.1.1
deed_from (inr (inl party)) = withdraws party
deed_from (inr (inr parts)) = splits parts

pub deed_back : (d : Deed) → deed_from (deed_cases d) ≡ d
deed_back (puts_reveals puts reveals test next) = refl
deed_back (withdraws party) = refl
deed_back (splits parts) = refl

abbrev pub coded_deed : Coded Deed
coded_deed =
    code_by Deeds
    (coded⊎ (coded× coded_names (coded× coded_names (coded× coded_test coded_ℕ))) (coded⊎ coded_name (coded_list (coded× coded_ℕ coded_ℕ))))
    deed_cases deed_from deed_back

abbrev pub Kinds : Type 0
Kinds = (List PathStep × List ℕ) ⊎ (List PathStep × (List (List ℕ) × (ℕ × Deed)))

abbrev pub node_cases : Node → Kinds
node_cases (choice_node position branches) = inl (position, branches)
node_cases (branch_node path asked height deed) = inr (path, (asked, (height, deed)))

abbrev pub node_from : Kinds → Node
node_from (inl p) = choice_node p.0 p.1
node_from (inr p) = branch_node p.0 p.1.0 p.1.1.0 p.1.1.1

pub node_back : (n : Node) → node_from (node_cases n) ≡ n
node_back (choice_node position branches) = refl
node_back (branch_node path asked height deed) = refl

abbrev pub coded_node : Coded PathStep → Coded Node
coded_node step =
    code_by Kinds
    (coded⊎ (coded× (coded_list step) (coded_list coded_ℕ)) (coded× (coded_list step) (coded× coded_names (coded× coded_ℕ coded_deed))))
    node_cases node_from node_back
