-- What the node of a branch says is what is seen of the branch at its path.
use Rattle.std.proofs.Common.{◌≡◌, ℕ, zero, suc, ◌+◌, List, [], ◌∷◌, ◌++◌, Option, Some, None, refl, sym, ap, ◌∙◌, true, map, drop, subst, arith}
use Rattle.std.specs.Prelude.{slice_get}
use Rattle.std.specs.Option.{option_map, option_and_then}
use Rattle.spec_terms.specs.Term.{Guarded, auth, after, put_reveal, withdraw, split, Contract, no_branch, branch, branches, Parts, no_part, part, parts_list}
use Rattle.spec_terms.specs.Core.{core, lock, puts_of}
use Rattle.spec_terms.specs.Paths.{Subterm, position, at_branch, below, next_subterm, subterm_from, as_branch, at, path_eq}
use Rattle.spec_terms.specs.declared.path.PathStep.{PathStep}
use Rattle.spec_terms.specs.declared.path.PathStep.TheVariants.{Branch as To, Part as Into}
use Rattle.spec_nodes.specs.Nodes.{Node, asks_once, branch_count, choice_count, branches_nodes, branch_nodes, parts_nodes, choice_nodes, nodes_of}
use Rattle.spec_terms.specs.PathSameness.{path_eq-Decides}
use Rattle.bm_arena.specs.declared.node.Node as code
use Rattle.bm_arena.specs.NodeView.{node_view}
use Rattle.bm_honest.specs.Unsigned.{seen_branch}
use Rattle.bm_honest.specs.Seen.{AreSeen}

both_seen : (root : Contract) (xs ys : List Node) → AreSeen root xs → AreSeen root ys → AreSeen root (xs ++ ys)
both_seen root [] ys a b = b
both_seen root (x ∷ xs) ys a b = (a.0, both_seen root xs ys a.1 b)

-- those that are left are seen so too
pub rest_seen : (root : Contract) (k : ℕ) (ns : List code.Node) → AreSeen root (map node_view ns) → AreSeen root (map node_view (drop k ns))
rest_seen root zero ns a = a
rest_seen root (suc k) [] a = tt
rest_seen root (suc k) (n ∷ ns) a = rest_seen root k ns a.1

-- a branch's node says what is seen at each path that is its own
pub seen_there : (root : Contract) (known path : List PathStep) (asked puts : List (List ℕ)) → path_eq known path ≡ true
    → seen_branch (at root known) ≡ Some (asked, puts) → seen_branch (at root path) ≡ Some (asked, puts)
seen_there root known path asked puts same h = subst (λ p. seen_branch (at root p) ≡ Some (asked, puts)) ((path_eq-Decides known path).0 same) h

-- one step more
further : (p q : Subterm) (steps : List PathStep) (s : PathStep) → subterm_from p steps ≡ Some q → subterm_from p (steps ++ s ∷ []) ≡ next_subterm q s
further p q [] s e = by_step p q s e
  where
    last : (o : Option Subterm) → option_and_then (λ r. subterm_from r []) o ≡ o
    last None = refl
    last (Some r) = refl

    by_step : (p q : Subterm) (s : PathStep) → Some p ≡ Some q → option_and_then (λ r. subterm_from r []) (next_subterm p s) ≡ next_subterm q s
    by_step p q s e = let same : p ≡ q = cc in last (next_subterm p s) ∙ ap (λ r. next_subterm r s) same
further p q (t ∷ steps) s e = by_next (next_subterm p t) e (λ r f. further r q steps s f)
  where
    by_next : (o : Option Subterm) → option_and_then (λ r. subterm_from r steps) o ≡ Some q
        → ((r : Subterm) → subterm_from r steps ≡ Some q → subterm_from r (steps ++ s ∷ []) ≡ next_subterm q s)
        → option_and_then (λ r. subterm_from r (steps ++ s ∷ [])) o ≡ next_subterm q s
    by_next None e go = cc
    by_next (Some r) e go = go r e

from_zero : (j : ℕ) → j ≡ 0 + j
from_zero j = omega arith

-- the branches of a choice are those from number 0 on
from_first : (c : Contract) (j : ℕ) → next_subterm (position c) (To (0 + j)) ≡ option_map at_branch (slice_get (branches c) j)
from_first c j = ap (λ k. option_map at_branch (slice_get (branches c) k)) (sym (from_zero j))

module _ (root : Contract) where
  -- the subterm stands there
  abbrev Stands : List PathStep → Subterm → Type 0
  Stands path p = subterm_from (position root) path ≡ Some p

  head_seen : (path : List PathStep) (b : Guarded) → Stands path (at_branch b) → seen_branch (at root path) ≡ Some (asks_once b, puts_of (core b))
  head_seen path b e = ap (λ o. seen_branch (option_and_then as_branch o)) e

  mutual
    branches_seen : (path : List PathStep) (i n : ℕ) (c : Contract) (p : Subterm) → Stands path p
        → ((j : ℕ) → next_subterm p (To (i + j)) ≡ option_map at_branch (slice_get (branches c) j)) → AreSeen root (branches_nodes path i n c)
    branches_seen path i n no_branch p e h = tt
    branches_seen path i n (branch b bs) p e h =
        let first : i ≡ i + 0 = omega arith in
        let there : Stands (path ++ To i ∷ []) (at_branch b) = further (position root) p path (To i) e ∙ ap (λ k. next_subterm p (To k)) first ∙ h 0 in
        both_seen root (branch_nodes (path ++ To i ∷ []) n (asks_once b) (lock b) b) (branches_nodes path (i + 1) (n + branch_count b) bs)
        (branch_seen (path ++ To i ∷ []) n (lock b) b b there refl)
        (branches_seen path (i + 1) (n + branch_count b) bs p e
        (λ j. (let next : i + 1 + j ≡ i + suc j = omega arith in ap (λ k. next_subterm p (To k)) next ∙ h (suc j))))

    branch_seen : (path : List PathStep) (n height : ℕ) (b x : Guarded) → Stands path (at_branch b) → core b ≡ core x
        → AreSeen root (branch_nodes path n (asks_once b) height x)
    branch_seen path n height b (auth party body) e f = branch_seen path n height b body e f
    branch_seen path n height b (after h body) e f = branch_seen path n height b body e f
    branch_seen path n height b (put_reveal puts reveals test next) e f = (
      head_seen path b e ∙ ap (λ d. Some (asks_once b, puts_of d)) f,
      (
        tt,
        branches_seen path 0 (n + 1 + 1) next (at_branch b) e
            (λ j. ap (λ k. below (core b) (To k)) (sym (from_zero j)) ∙ ap (λ d. below d (To j)) f),
      ),
    )
    branch_seen path n height b (withdraw party) e f = (head_seen path b e ∙ ap (λ d. Some (asks_once b, puts_of d)) f, tt)
    branch_seen path n height b (split parts) e f = (
      head_seen path b e ∙ ap (λ d. Some (asks_once b, puts_of d)) f,
      parts_seen path 0 (n + 1) parts (at_branch b) e
          (λ j. ap (λ k. below (core b) (Into k)) (sym (from_zero j)) ∙ ap (λ d. below d (Into j)) f),
    )

    parts_seen : (path : List PathStep) (k n : ℕ) (ps : Parts) (p : Subterm) → Stands path p
        → ((j : ℕ) → next_subterm p (Into (k + j)) ≡ option_map (λ q. position q.1) (slice_get (parts_list ps) j)) → AreSeen root (parts_nodes path k n ps)
    parts_seen path k n no_part p e h = tt
    parts_seen path k n (part v c ps) p e h =
        let first : k ≡ k + 0 = omega arith in
        let there : Stands (path ++ Into k ∷ []) (position c) = further (position root) p path (Into k) e ∙ ap (λ i. next_subterm p (Into i)) first ∙ h 0 in
        both_seen root (choice_nodes (path ++ Into k ∷ []) n c) (parts_nodes path (k + 1) (n + choice_count c) ps)
        (tt, branches_seen (path ++ Into k ∷ []) 0 (n + 1) c (position c) there (from_first c))
        (parts_seen path (k + 1) (n + choice_count c) ps p e
        (λ j. (let next : k + 1 + j ≡ k + suc j = omega arith in ap (λ i. next_subterm p (Into i)) next ∙ h (suc j))))

  nodes_seen : AreSeen root (nodes_of root)
  nodes_seen = (tt, branches_seen [] 0 (0 + 1) root (position root) refl (from_first root))

  -- the nodes of a contract say what is seen of its branches
  pub all_seen : (ns : List Node) → ns ≡ nodes_of root → AreSeen root ns
  all_seen ns is = subst (AreSeen root) (sym is) nodes_seen
