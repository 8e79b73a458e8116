-- Lists of nodes that the code writes, and how many there are.
use Rattle.std.proofs.Common.{◌≡◌, ℕ, ◌+◌, ◌≤◌, List, [], ◌∷◌, ◌++◌, length, ap, ◌∙◌, refl, arith, append_assoc}
use Rattle.std.specs.Prelude.{slice_set}
use Rattle.std.proofs.lemmas.List.{length-append, set_at}
use Rattle.spec_terms.specs.Term.{Guarded, auth, after, put_reveal, withdraw, split, Contract, Parts}
use Rattle.bm_syntax.specs.View.{choice_of, parts_of}
use Rattle.spec_terms.specs.declared.path.PathStep.{PathStep}
use Rattle.spec_nodes.specs.Nodes.{Node, choice_node, branch_node, splits, branch_count, branches_count, parts_count}
use Rattle.spec_nodes.specs.Nodes.{choice_nodes, branches_nodes, parts_nodes, branch_numbers, part_numbers}

-- a node was put down after the old ones, others after it, and then it was written again
pub placed : (old one two new : List Node) (p x : Node) (rest : List Node)
    → one ≡ old ++ p ∷ [] → two ≡ one ++ rest → new ≡ slice_set two (length old) x → new ≡ old ++ x ∷ rest
placed old one two new p x rest e f g =
    let flat : two ≡ old ++ p ∷ rest = f ∙ ap (λ ns. ns ++ rest) e ∙ append_assoc old (p ∷ []) rest in
    g ∙ ap (λ ns. slice_set ns (length old) x) flat ∙ set_at old p rest x (length old) refl

-- one more node
pub one_more : (old new : List Node) (p : Node) → new ≡ old ++ p ∷ [] → length new ≡ length old + 1
one_more old new p e = ap length e ∙ length-append old (p ∷ [])

-- each branch is a node
pub some_node : (b : Guarded) → 1 ≤ branch_count b
some_node (auth party body) = some_node body
some_node (after height body) = some_node body
some_node (put_reveal puts reveals test next) = omega arith
some_node (withdraw party) = omega arith
some_node (split parts) = omega arith

-- a choice has at least as many nodes below it as branches
pub as_many_branches : (bs : List Guarded) → length bs ≤ branches_count (choice_of bs)
as_many_branches [] = omega arith
as_many_branches (b ∷ bs) = omega (arith, some_node b, as_many_branches bs)

-- a split has at least as many nodes below it as parts
pub as_many_parts : (ps : List (ℕ × Contract)) → length ps ≤ parts_count (parts_of ps)
as_many_parts [] = omega arith
as_many_parts (p ∷ ps) = omega (arith, as_many_parts ps)

-- the node of a choice was put down, then its branches, and then it was written with their numbers
pub choice_made : (old one two new : List Node) (p : Node) (position : List PathStep) (c : Contract) (number : ℕ)
    (numbers : List ℕ)
    → number ≡ length old → one ≡ old ++ p ∷ [] → two ≡ one ++ branches_nodes position 0 (length one) c
    → numbers ≡ branch_numbers (length one) c
    → new ≡ slice_set two number (choice_node position numbers) → new ≡ old ++ choice_nodes position (length old) c
choice_made old one two new p position c number numbers k e f g h =
    let l = one_more old one p e in
    let made : two ≡ one ++ branches_nodes position 0 (length old + 1) c = rw l at f in
    let named : numbers ≡ branch_numbers (length old + 1) c = rw l at g in
    placed old one two new p (choice_node position (branch_numbers (length old + 1) c)) _ e made (rw (k, named) at h)

-- the same of a split and its parts
pub split_made : (old one two new : List Node) (p : Node) (path : List PathStep) (asked : List (List ℕ)) (height : ℕ)
    (ps : Parts) (number : ℕ) (numbers : List (ℕ × ℕ))
    → number ≡ length old → one ≡ old ++ p ∷ [] → two ≡ one ++ parts_nodes path 0 (length one) ps
    → numbers ≡ part_numbers (length one) ps
    → new ≡ slice_set two number (branch_node path asked height (splits numbers))
    → new ≡ old ++ branch_node path asked height (splits (part_numbers (length old + 1) ps)) ∷ parts_nodes path 0 (length old + 1) ps
split_made old one two new p path asked height ps number numbers k e f g h =
    let l = one_more old one p e in
    let made : two ≡ one ++ parts_nodes path 0 (length old + 1) ps = rw l at f in
    let named : numbers ≡ part_numbers (length old + 1) ps = rw l at g in
    placed old one two new p (branch_node path asked height (splits (part_numbers (length old + 1) ps))) _ e made (rw (k, named) at h)
