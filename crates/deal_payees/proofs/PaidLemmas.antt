-- The nodes of a contract pay those whom its withdraws pay, in the order of the text.
use Rattle.std.proofs.Common.{◌≡◌, ℕ, ◌+◌, List, [], ◌∷◌, ◌++◌, refl, ◌∙◌}
use Rattle.std.specs.List.{flat_map}
use Rattle.std.proofs.lemmas.Grind.{flat_map-append}
use Rattle.spec_terms.specs.Term as term
use Rattle.spec_terms.specs.Term.{auth, after, put_reveal, withdraw, split, Contract, no_branch, branch, Parts, no_part, part}
use Rattle.spec_terms.specs.Core.{lock}
use Rattle.spec_terms.specs.declared.path.PathStep.{PathStep}
use Rattle.spec_terms.specs.declared.path.PathStep.TheVariants.{Branch as To, Part as Into}
use Rattle.spec_nodes.specs.Nodes.{Node, asks_once, branch_count, choice_count, nodes_of, branches_nodes, branch_nodes, parts_nodes}
use Rattle.spec_deal.specs.Used.{paid_by, choice_paid, parts_paid}
use Rattle.deal_payees.specs.Paid.{node_paid}

both : (xs ys : List Node) (a b : List (List ℕ)) → flat_map node_paid xs ≡ a → flat_map node_paid ys ≡ b
    → flat_map node_paid (xs ++ ys) ≡ a ++ b
both xs ys a b one other = flat_map-append node_paid xs ys ∙ (λ j. one j ++ other j)

mutual
  branches_pay : (position : List PathStep) (i n : ℕ) (c : Contract) → flat_map node_paid (branches_nodes position i n c) ≡ choice_paid c
  branches_pay position i n no_branch = refl
  branches_pay position i n (branch b bs) =
      both (branch_nodes (position ++ To i ∷ []) n (asks_once b) (lock b) b) (branches_nodes position (i + 1) (n + branch_count b) bs)
      (paid_by b) (choice_paid bs)
      (branch_pays (position ++ To i ∷ []) n (asks_once b) (lock b) b) (branches_pay position (i + 1) (n + branch_count b) bs)

  branch_pays : (path : List PathStep) (n : ℕ) (asked : List (List ℕ)) (height : ℕ) (b : term.Guarded)
      → flat_map node_paid (branch_nodes path n asked height b) ≡ paid_by b
  branch_pays path n asked height (auth party body) = branch_pays path n asked height body
  branch_pays path n asked height (after h body) = branch_pays path n asked height body
  branch_pays path n asked height (put_reveal puts reveals test next) = branches_pay path 0 (n + 1 + 1) next
  branch_pays path n asked height (withdraw party) = refl
  branch_pays path n asked height (split parts) = parts_pay path 0 (n + 1) parts

  parts_pay : (path : List PathStep) (k n : ℕ) (ps : Parts) → flat_map node_paid (parts_nodes path k n ps) ≡ parts_paid ps
  parts_pay path k n no_part = refl
  parts_pay path k n (part v c ps) =
      flat_map-append node_paid (branches_nodes (path ++ Into k ∷ []) 0 (n + 1) c) (parts_nodes path (k + 1) (n + choice_count c) ps)
      ∙ (λ j. branches_pay (path ++ Into k ∷ []) 0 (n + 1) c j ++ parts_pay path (k + 1) (n + choice_count c) ps j)

pub nodes_pay : (root : Contract) → flat_map node_paid (nodes_of root) ≡ choice_paid root
nodes_pay root = branches_pay [] 0 1 root
