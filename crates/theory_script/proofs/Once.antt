-- Each path of a contract's branches stands once in the order of the text, and so does each of its positions.
use Rattle.std.proofs.Common.{◌≡◌, ℕ, zero, suc, ◌+◌, ◌≤◌, List, [], ◌∷◌, ◌++◌, length, Bool, true, false, Some, None, refl, sym}
use Rattle.std.proofs.Common.{ap, ◌∙◌, subst, arith}
use Rattle.std.specs.Prelude.{slice_get, if◌then◌else◌, ◌||◌, not}
use Rattle.std.proofs.lemmas.Bool.{and_parts, and_from, not-true, not_from_false}
use Rattle.spec_terms.specs.Term.{Guarded, auth, after, put_reveal, withdraw, split, Contract, no_branch, branch, Parts, no_part, part}
use Rattle.spec_terms.specs.Paths.{Subterm, position, at_branch, path_eq}
use Rattle.spec_terms.specs.PathSameness.{path_eq-Decides}
use Rattle.spec_terms.specs.Order.{Located, located, branches_from, under, parts_from, in_order, if_branch, if_position}
use Rattle.spec_terms.specs.Order.{branch_paths_of, position_paths_of, branch_paths, position_paths}
use Rattle.spec_terms.specs.declared.path.PathStep.{PathStep}
use Rattle.spec_terms.specs.declared.path.PathStep.TheVariants.{Branch as To, Part as Into}
use Rattle.theory_script.specs.Listed.{is_path_among, are_once}

-- ---- the steps of paths

at_end : (q : List PathStep) (step : PathStep) → slice_get (q ++ step ∷ []) (length q) ≡ Some step
at_end [] step = refl
at_end (x ∷ q) step = at_end q step

past_end : (q : List PathStep) → slice_get q (length q) ≡ None
past_end [] = refl
past_end (x ∷ q) = past_end q

longer : (q t : List PathStep) (d : ℕ) (step : PathStep) → slice_get q d ≡ Some step → slice_get (q ++ t) d ≡ Some step
longer [] t d step h = cc
longer (x ∷ q) t zero step h = h
longer (x ∷ q) t (suc d) step h = longer q t d step h

-- ---- what is true of the paths of all stops

abbrev All : (List PathStep → Type 0) → List Located → Type 0
All P [] = Unit {0}
All P (x ∷ xs) = P x.path × All P xs

all-append : (P : List PathStep → Type 0) (xs ys : List Located) → All P xs → All P ys → All P (xs ++ ys)
all-append P [] ys h k = k
all-append P (x ∷ xs) ys h k = (h.0, all-append P xs ys h.1 k)

all_then : (P Q : List PathStep → Type 0) (xs : List Located) → ((r : List PathStep) → P r → Q r) → All P xs → All Q xs
all_then P Q [] f h = tt
all_then P Q (x ∷ xs) f h = (f x.path h.0, all_then P Q xs f h.1)

-- the path has this step at this depth
abbrev Has : ℕ → PathStep → List PathStep → Type 0
Has d step r = slice_get r d ≡ Some step

-- all paths below a path have its steps
mutual
  below_choice : (d : ℕ) (step : PathStep) (q : List PathStep) (i : ℕ) (c : Contract) → Has d step q → All (Has d step) (branches_from q i c)
  below_choice d step q i no_branch h = tt
  below_choice d step q i (branch b bs) h =
      let here = longer q (To i ∷ []) d step h in
      let p = q ++ To i ∷ [] in
      let first = below_branch d step p b here in
      (here, all-append (Has d step) (under p b) (branches_from q (i + 1) bs) first (below_choice d step q (i + 1) bs h))

  below_branch : (d : ℕ) (step : PathStep) (p : List PathStep) (b : Guarded) → Has d step p → All (Has d step) (under p b)
  below_branch d step p (auth party body) h = below_branch d step p body h
  below_branch d step p (after height body) h = below_branch d step p body h
  below_branch d step p (put_reveal puts reveals test next) h = (h, below_choice d step p 0 next h)
  below_branch d step p (withdraw party) h = tt
  below_branch d step p (split parts) h = below_parts d step p 0 parts h

  below_parts : (d : ℕ) (step : PathStep) (p : List PathStep) (k : ℕ) (ps : Parts) → Has d step p → All (Has d step) (parts_from p k ps)
  below_parts d step p k no_part h = tt
  below_parts d step p k (part v c ps) h =
      let here = longer p (Into k ∷ []) d step h in
      let q = p ++ Into k ∷ [] in
      let first = below_choice d step q 0 c here in
      (here, all-append (Has d step) (branches_from q 0 c) (parts_from p (k + 1) ps) first (below_parts d step p (k + 1) ps h))

-- the path's step at this depth is of this kind and has at least this number
record Later (kind : ℕ → PathStep) (d i : ℕ) (r : List PathStep) : Type 0 where
  number : ℕ
  least : i ≤ number
  has : Has d (kind number) r

later_of : (kind : ℕ → PathStep) (d i j : ℕ) → j ≤ i → (r : List PathStep) → Has d (kind i) r → Later kind d j r
later_of kind d i j le r h = record { number = i; least = le; has = h }

later_than : (kind : ℕ → PathStep) (d i j : ℕ) → j ≤ i → (r : List PathStep) → Later kind d i r → Later kind d j r
later_than kind d i j le r h = record { number = h.number; least = omega (arith, le, h.least); has = h.has }

-- the paths of branches from number i on, and of parts
later_branches : (q : List PathStep) (i : ℕ) (c : Contract) → All (Later To (length q) i) (branches_from q i c)
later_branches q i no_branch = tt
later_branches q i (branch b bs) =
    let here = at_end q (To i) in
    let p = q ++ To i ∷ [] in
    let d = length q in
    let first = all_then (Has d (To i)) (Later To d i) (under p b) (later_of To d i i (omega arith)) (below_branch d (To i) p b here) in
    let rest =
    all_then (Later To d (i + 1)) (Later To d i) (branches_from q (i + 1) bs) (later_than To d (i + 1) i (omega arith))
    (later_branches q (i + 1) bs) in
    (later_of To d i i (omega arith) p here, all-append (Later To d i) (under p b) (branches_from q (i + 1) bs) first rest)

later_parts : (p : List PathStep) (k : ℕ) (ps : Parts) → All (Later Into (length p) k) (parts_from p k ps)
later_parts p k no_part = tt
later_parts p k (part v c ps) =
    let here = at_end p (Into k) in
    let q = p ++ Into k ∷ [] in
    let d = length p in
    let below = below_choice d (Into k) q 0 c here in
    let first = all_then (Has d (Into k)) (Later Into d k) (branches_from q 0 c) (later_of Into d k k (omega arith)) below in
    let rest =
    all_then (Later Into d (k + 1)) (Later Into d k) (parts_from p (k + 1) ps) (later_than Into d (k + 1) k (omega arith))
    (later_parts p (k + 1) ps) in
    (later_of Into d k k (omega arith) q here, all-append (Later Into d k) (branches_from q 0 c) (parts_from p (k + 1) ps) first rest)

-- ---- paths apart

abbrev Apart : List PathStep → List PathStep → Type 0
Apart a b = a ≡ b → ⊥

-- a path and those below it
end_apart : (kind : ℕ → PathStep) (p r : List PathStep) (i : ℕ) → Later kind (length p) i r → Apart p r
end_apart kind p r i h e =
    let a = past_end p in
    let b : slice_get p (length p) ≡ Some (kind h.number) = subst (λ x. slice_get x (length p) ≡ Some (kind h.number)) (sym e) h.has in
    cc

-- those of one number and those of later ones
branches_apart : (d i : ℕ) (a b : List PathStep) → Has d (To i) a → Later To d (i + 1) b → Apart a b
branches_apart d i a b h l e =
    let k : slice_get b d ≡ Some (To i) = subst (λ x. slice_get x d ≡ Some (To i)) e h in
    let same : Some (To i) ≡ Some (To l.number) = sym k ∙ l.has in
    let n : i ≡ l.number = cc in
    absurd (omega (arith, n, l.least))

parts_apart : (d k : ℕ) (a b : List PathStep) → Has d (Into k) a → Later Into d (k + 1) b → Apart a b
parts_apart d k a b h l e =
    let m : slice_get b d ≡ Some (Into k) = subst (λ x. slice_get x d ≡ Some (Into k)) e h in
    let same : Some (Into k) ≡ Some (Into l.number) = sym m ∙ l.has in
    let n : k ≡ l.number = cc in
    absurd (omega (arith, n, l.least))

-- ---- the paths of some stops, by what stands there

abbrev pick_one : Bool → List PathStep → List (List PathStep) → List (List PathStep)
pick_one picked path others = if picked then path ∷ others else others

-- the paths of those stops whose spots pass the test
abbrev pick : (Subterm → Bool) → List Located → List (List PathStep)
pick f [] = []
pick f (x ∷ xs) = pick_one (f x.subterm) x.path (pick f xs)

abbrev is_branch : Subterm → Bool
is_branch (position c) = false
is_branch (at_branch b) = true

abbrev is_position : Subterm → Bool
is_position (position c) = true
is_position (at_branch b) = false

branch_paths_of-pick : (xs : List Located) → branch_paths_of xs ≡ pick is_branch xs
branch_paths_of-pick [] = refl
branch_paths_of-pick (x ∷ xs) = by_spot x.subterm (branch_paths_of-pick xs)
  where
    by_spot : (subterm : Subterm) → branch_paths_of xs ≡ pick is_branch xs
        → if_branch subterm x.path (branch_paths_of xs) ≡ pick_one (is_branch subterm) x.path (pick is_branch xs)
    by_spot (position c) h = h
    by_spot (at_branch b) h = ap (λ (ps : List (List PathStep)). x.path ∷ ps) h

position_paths_of-pick : (xs : List Located) → position_paths_of xs ≡ pick is_position xs
position_paths_of-pick [] = refl
position_paths_of-pick (x ∷ xs) = by_spot x.subterm (position_paths_of-pick xs)
  where
    by_spot : (subterm : Subterm) → position_paths_of xs ≡ pick is_position xs
        → if_position subterm x.path (position_paths_of xs) ≡ pick_one (is_position subterm) x.path (pick is_position xs)
    by_spot (position c) h = ap (λ (ps : List (List PathStep)). x.path ∷ ps) h
    by_spot (at_branch b) h = h

-- ---- lists of paths

abbrev AllPaths : (List PathStep → Type 0) → List (List PathStep) → Type 0
AllPaths P [] = Unit {0}
AllPaths P (p ∷ ps) = P p × AllPaths P ps

pick-append : (f : Subterm → Bool) (xs ys : List Located) → pick f (xs ++ ys) ≡ pick f xs ++ pick f ys
pick-append f [] ys = refl
pick-append f (x ∷ xs) ys = by_test (f x.subterm) (pick-append f xs ys)
  where
    by_test : (t : Bool) → pick f (xs ++ ys) ≡ pick f xs ++ pick f ys
        → pick_one t x.path (pick f (xs ++ ys)) ≡ pick_one t x.path (pick f xs) ++ pick f ys
    by_test true h = ap (λ (ps : List (List PathStep)). x.path ∷ ps) h
    by_test false h = h

all_pick : (f : Subterm → Bool) (P : List PathStep → Type 0) (xs : List Located) → All P xs → AllPaths P (pick f xs)
all_pick f P [] h = tt
all_pick f P (x ∷ xs) h = by_test (f x.subterm) (all_pick f P xs h.1)
  where
    by_test : (t : Bool) → AllPaths P (pick f xs) → AllPaths P (pick_one t x.path (pick f xs))
    by_test true k = (h.0, k)
    by_test false k = k

paths_then : (P Q : List PathStep → Type 0) (ps : List (List PathStep)) → ((r : List PathStep) → P r → Q r) → AllPaths P ps
    → AllPaths Q ps
paths_then P Q [] f h = tt
paths_then P Q (p ∷ ps) f h = (f p h.0, paths_then P Q ps f h.1)

-- each of the first is apart from each of the second
abbrev AllApart : List (List PathStep) → List (List PathStep) → Type 0
AllApart ps qs = AllPaths (λ a. AllPaths (Apart a) qs) ps

not_among : (p : List PathStep) (ps : List (List PathStep)) → AllPaths (Apart p) ps → is_path_among p ps ≡ false
not_among p [] h = refl
not_among p (q ∷ ps) h = by_test (path_eq p q) refl (not_among p ps h.1)
  where
    by_test : (t : Bool) → path_eq p q ≡ t → is_path_among p ps ≡ false → (t || is_path_among p ps) ≡ false
    by_test true e k = absurd (h.0 ((path_eq-Decides p q).0 e))
    by_test false e k = k

among-append : (p : List PathStep) (xs ys : List (List PathStep)) → is_path_among p xs ≡ false → is_path_among p ys ≡ false
    → is_path_among p (xs ++ ys) ≡ false
among-append p [] ys h k = k
among-append p (x ∷ xs) ys h k = by_test (path_eq p x) h (λ l. among-append p xs ys l k)
  where
    by_test : (t : Bool) → (t || is_path_among p xs) ≡ false → (is_path_among p xs ≡ false → is_path_among p (xs ++ ys) ≡ false)
        → (t || is_path_among p (xs ++ ys)) ≡ false
    by_test true l f = cc
    by_test false l f = f l

once_append : (xs ys : List (List PathStep)) → are_once xs ≡ true → are_once ys ≡ true → AllApart xs ys → are_once (xs ++ ys) ≡ true
once_append [] ys h k a = k
once_append (x ∷ xs) ys h k a =
    let p = and_parts (not (is_path_among x xs)) (are_once xs) h in
    and_from _ _
    (not_from_false _ (among-append x xs ys (not-true _ p.0) (not_among x ys a.0)))
    (once_append xs ys p.1 k a.1)

one_more : (t : Bool) (p : List PathStep) (ps : List (List PathStep)) → AllPaths (Apart p) ps → are_once ps ≡ true
    → are_once (pick_one t p ps) ≡ true
one_more true p ps a h = and_from _ _ (not_from_false _ (not_among p ps a)) h
one_more false p ps a h = h

-- ---- the order of the text

-- the test picks branches alone or positions alone
module _ (f : Subterm → Bool) (one_kind : (b : Guarded) (c : Contract) → f (at_branch b) ≡ true → f (position c) ≡ true → ⊥) where
  -- what is below a path is apart from it
  below_apart : (p : List PathStep) (c : Contract) → AllPaths (Apart p) (pick f (branches_from p 0 c))
  below_apart p c =
      paths_then (Later To (length p) 0) (Apart p) (pick f (branches_from p 0 c)) (λ r h. end_apart To p r 0 h)
      (all_pick f (Later To (length p) 0) (branches_from p 0 c) (later_branches p 0 c))

  put_once : (s t : Bool) (p : List PathStep) (ps : List (List PathStep)) → AllPaths (Apart p) ps → are_once ps ≡ true
      → (s ≡ true → t ≡ true → ⊥) → are_once (pick_one s p (pick_one t p ps)) ≡ true
  put_once true true p ps a h kinds = absurd (kinds refl refl)
  put_once true false p ps a h kinds = one_more true p ps a h
  put_once false t p ps a h kinds = one_more t p ps a h

  mutual
    choice_once : (q : List PathStep) (i : ℕ) (c : Contract) → are_once (pick f (branches_from q i c)) ≡ true
    choice_once q i no_branch = refl
    choice_once q i (branch b bs) =
        let p = q ++ To i ∷ [] in
        let d = length q in
        let here = at_end q (To i) in
        let block = located p (at_branch b) ∷ under p b in
        let rest = branches_from q (i + 1) bs in
        subst (λ ps. are_once ps ≡ true) (sym (pick-append f block rest))
        (once_append (pick f block) (pick f rest) (block_once p b b) (choice_once q (i + 1) bs)
        (paths_then (Has d (To i)) (λ a. AllPaths (Apart a) (pick f rest)) (pick f block)
        (λ a h. paths_then (Later To d (i + 1)) (Apart a) (pick f rest) (λ r l. branches_apart d i a r h l)
        (all_pick f (Later To d (i + 1)) rest (later_branches q (i + 1) bs)))
        (all_pick f (Has d (To i)) block (here, below_branch d (To i) p b here))))

    -- a branch with what is under it, by its core
    block_once : (p : List PathStep) (w b : Guarded) → are_once (pick f (located p (at_branch w) ∷ under p b)) ≡ true
    block_once p w (auth party body) = block_once p w body
    block_once p w (after height body) = block_once p w body
    block_once p w (put_reveal puts reveals test next) =
        put_once (f (at_branch w)) (f (position next)) p (pick f (branches_from p 0 next)) (below_apart p next) (choice_once p 0 next)
        (one_kind w next)
    block_once p w (withdraw party) = one_more (f (at_branch w)) p [] tt refl
    block_once p w (split parts) =
        one_more (f (at_branch w)) p (pick f (parts_from p 0 parts))
        (paths_then (Later Into (length p) 0) (Apart p) (pick f (parts_from p 0 parts)) (λ r h. end_apart Into p r 0 h)
        (all_pick f (Later Into (length p) 0) (parts_from p 0 parts) (later_parts p 0 parts)))
        (parts_once p 0 parts)

    parts_once : (p : List PathStep) (k : ℕ) (ps : Parts) → are_once (pick f (parts_from p k ps)) ≡ true
    parts_once p k no_part = refl
    parts_once p k (part v c ps) =
        let q = p ++ Into k ∷ [] in
        let d = length p in
        let here = at_end p (Into k) in
        let block = located q (position c) ∷ branches_from q 0 c in
        let rest = parts_from p (k + 1) ps in
        subst (λ ps. are_once ps ≡ true) (sym (pick-append f block rest))
        (once_append (pick f block) (pick f rest)
        (one_more (f (position c)) q (pick f (branches_from q 0 c)) (below_apart q c) (choice_once q 0 c))
        (parts_once p (k + 1) ps)
        (paths_then (Has d (Into k)) (λ a. AllPaths (Apart a) (pick f rest)) (pick f block)
        (λ a h. paths_then (Later Into d (k + 1)) (Apart a) (pick f rest) (λ r l. parts_apart d k a r h l)
        (all_pick f (Later Into d (k + 1)) rest (later_parts p (k + 1) ps)))
        (all_pick f (Has d (Into k)) block (here, below_choice d (Into k) q 0 c here))))

  picked_once : (root : Contract) → are_once (pick f (in_order root)) ≡ true
  picked_once root = one_more (f (position root)) [] (pick f (branches_from [] 0 root)) (below_apart [] root) (choice_once [] 0 root)

pub branches_once : (root : Contract) → are_once (branch_paths root) ≡ true
branches_once root =
    subst (λ ps. are_once ps ≡ true) (sym (branch_paths_of-pick (in_order root))) (picked_once is_branch (λ b c h k. cc) root)

pub positions_once : (root : Contract) → are_once (position_paths root) ≡ true
positions_once root =
    subst (λ ps. are_once ps ≡ true) (sym (position_paths_of-pick (in_order root))) (picked_once is_position (λ b c h k. cc) root)
