-- A position has no more branches than its contract has nodes, and its node has a number for each.
use Rattle.std.proofs.Common.{◌≡◌, ℕ, ◌+◌, suc, ◌≤◌, List, [], ◌∷◌, ◌++◌, length, true, Option, Some, None}
use Rattle.std.proofs.Common.{refl, sym, ap, subst, ◌∙◌, arith, length-append}
use Rattle.std.specs.Prelude.{nat_le, slice_get, min, Bool}
use Rattle.spec_terms.specs.Term.{Guarded, auth, after, put_reveal, withdraw, split, Contract, no_branch, branch}
use Rattle.spec_terms.specs.Term.{branches, Parts, no_part, part}
use Rattle.spec_terms.specs.Paths.{Subterm, position, at_branch, contract_under}
use Rattle.spec_terms.specs.declared.path.PathStep.{PathStep}
use Rattle.spec_terms.specs.declared.path.PathStep.TheVariants.{Branch as To, Part as Into}
use Rattle.spec_terms.specs.Core.{lock}
use Rattle.spec_nodes.specs.Nodes.{Node, choice_node, asks_once, branch_count, choice_count, branch_numbers, choice_head}
use Rattle.spec_nodes.specs.Nodes.{branches_nodes, branch_nodes, parts_nodes, nodes_of}
use Rattle.spec_nodes.specs.Numbers.{IsChoiceOf, choice_number_at}
use Rattle.spec_run.specs.Ledger.{count_of}
use Rattle.theory_nodes.specs.Found.{ChoicesAreFound}
use Rattle.theory_script.proofs.Listing.Subterms.{Each, EachUnder, EachPart, each_at}
use Rattle.bm_arena.specs.NodeView.{branches_in}

-- ---- each branch has a node

some_node : (path : List PathStep) (n : ℕ) (asked : List (List ℕ)) (height : ℕ) (b : Guarded)
    → 1 ≤ length (branch_nodes path n asked height b)
some_node path n asked height (auth party body) = some_node path n asked height body
some_node path n asked height (after h body) = some_node path n asked height body
some_node path n asked height (put_reveal puts reveals test next) = omega arith
some_node path n asked height (withdraw party) = omega arith
some_node path n asked height (split parts) = omega arith

-- the nodes of the branches of a position are those of the first and those of the others
parted : (q : List PathStep) (i n : ℕ) (b : Guarded) (bs : Contract)
    → length (branches_nodes q i n (branch b bs))
    ≡ length (branch_nodes (q ++ To i ∷ []) n (asks_once b) (lock b) b) + length (branches_nodes q (i + 1) (n + branch_count b) bs)
parted q i n b bs =
    length-append (branch_nodes (q ++ To i ∷ []) n (asks_once b) (lock b) b) (branches_nodes q (i + 1) (n + branch_count b) bs)

few_branches : (q : List PathStep) (i n : ℕ) (c : Contract) → length (branches c) ≤ length (branches_nodes q i n c)
few_branches q i n no_branch = omega arith
few_branches q i n (branch b bs) =
    let h = some_node (q ++ To i ∷ []) n (asks_once b) (lock b) b in
    let k = few_branches q (i + 1) (n + branch_count b) bs in
    let l = parted q i n b bs in
    omega (arith, h, k, l)

-- ---- at every position

module _ (most : ℕ) where
  -- whether a position has so many branches at most
  abbrev has_few : Subterm → Bool
  has_few (position c) = nat_le (length (branches c)) most
  has_few (at_branch b) = true

  few_here : (q : List PathStep) (i n : ℕ) (c : Contract) → length (branches_nodes q i n c) ≤ most
      → nat_le (length (branches c)) most ≡ true
  few_here q i n c h =
      let k = few_branches q i n c in
      let l : length (branches c) ≤ most = omega (arith, h, k) in
      grind (arith, l)

  mutual
    few_in : (q : List PathStep) (i n : ℕ) (c : Contract) → length (branches_nodes q i n c) ≤ most → Each has_few c
    few_in q i n no_branch h = tt
    few_in q i n (branch b bs) h =
        let e = parted q i n b bs in (
          refl,
          few_under (q ++ To i ∷ []) n (asks_once b) (lock b) b (omega (arith, h, e)),
          few_in q (i + 1) (n + branch_count b) bs (omega (arith, h, e)),
        )

    few_under : (path : List PathStep) (n : ℕ) (asked : List (List ℕ)) (height : ℕ) (b : Guarded)
        → length (branch_nodes path n asked height b) ≤ most → EachUnder has_few b
    few_under path n asked height (auth party body) h = few_under path n asked height body h
    few_under path n asked height (after t body) h = few_under path n asked height body h
    few_under path n asked height (put_reveal puts reveals test next) h =
        let l : length (branches_nodes path 0 (n + 1 + 1) next) ≤ most = omega (arith, h) in
        (few_here path 0 (n + 1 + 1) next l, few_in path 0 (n + 1 + 1) next l)
    few_under path n asked height (withdraw party) h = tt
    few_under path n asked height (split parts) h = few_parts path 0 (n + 1) parts (omega (arith, h))

    few_parts : (path : List PathStep) (k n : ℕ) (ps : Parts) → length (parts_nodes path k n ps) ≤ most → EachPart has_few ps
    few_parts path k n no_part h = tt
    few_parts path k n (part v c ps) h =
        let q = path ++ Into k ∷ [] in
        let e = length-append (branches_nodes q 0 (n + 1) c) (parts_nodes path (k + 1) (n + choice_count c) ps) in
        let l : length (branches_nodes q 0 (n + 1) c) ≤ most = omega (arith, h, e) in
        (few_here q 0 (n + 1) c l, few_in q 0 (n + 1) c l, few_parts path (k + 1) (n + choice_count c) ps (omega (arith, h, e)))

few_at : (root : Contract) (q : List PathStep) (c : Contract) → contract_under root q ≡ Some c
    → length (branches c) ≤ length (nodes_of root)
few_at root q c e =
    let most = length (nodes_of root) in
    let l : length (branches_nodes [] 0 1 root) ≤ most = omega arith in
    let all = each_at (has_few most) root q c (few_here most [] 0 1 root l, few_in most [] 0 1 root l) e in
    let h : nat_le (length (branches c)) most ≡ true = all.0 in
    grind (arith, h)

-- ---- by the number of a choice

length-branch_numbers : (n : ℕ) (c : Contract) → length (branch_numbers n c) ≡ length (branches c)
length-branch_numbers n no_branch = refl
length-branch_numbers n (branch b bs) = ap (λ k. suc k) (length-branch_numbers (n + branch_count b) bs)

-- the node of a position's choice has as many numbers as the position has branches, and no more than there are nodes
pub counted : (nodes : List Node) (root : Contract) (q : List PathStep) (number : ℕ) → ChoicesAreFound → nodes ≡ nodes_of root
    → choice_number_at nodes q ≡ Some number
    → min (branches_in (slice_get nodes number)) (length nodes) ≡ count_of (contract_under root q)
counted nodes root q number theorem e named =
    rw e (by_choice (contract_under root q) refl
    (subst (λ o. IsChoiceOf (nodes_of root) q o (contract_under root q)) (rw e at named) (theorem root q)))
  where
    by_choice : (o : Option Contract) → contract_under root q ≡ o → IsChoiceOf (nodes_of root) q (Some number) o
        → min (branches_in (slice_get (nodes_of root) number)) (length (nodes_of root)) ≡ count_of o
    by_choice None u h = absurd h
    by_choice (Some c) u h =
        let l = few_at root q c u in
        let k = length-branch_numbers (number + 1) c in
        rw (h, k) (omega (arith, l))
