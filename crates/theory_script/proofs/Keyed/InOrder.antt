-- The transactions and the scripts of a contract stand in the order of its text.
use Rattle.std.proofs.Common.{◌≡◌, ℕ, ◌+◌, List, [], ◌∷◌, ◌++◌, map, refl, sym, ap, ◌∙◌}
use Rattle.std.proofs.lemmas.List.{map-append}
use Rattle.spec_terms.specs.Term as term
use Rattle.spec_terms.specs.Term.{Contract, no_branch, branch, Parts, no_part, part, auth, after, put_reveal, withdraw, split}
use Rattle.spec_terms.specs.Core.{lock}
use Rattle.spec_terms.specs.Paths as terms
use Rattle.spec_terms.specs.Order.{Located, branches_from, under, parts_from, if_branch, if_position}
use Rattle.spec_terms.specs.Order.{branch_paths_of, position_paths_of, branch_paths, position_paths}
use Rattle.spec_terms.specs.declared.path.PathStep.{PathStep}
use Rattle.spec_compiler.specs.Keyed.Keys.{Keys}
use Rattle.spec_compiler.specs.declared.prepared.Prepared.{Prepared}
use Rattle.spec_compiler.specs.declared.unsigned.Unsigned.{Unsigned}
use Rattle.spec_compiler.specs.Keyed.Instance.{Instance, branch_path}
use Rattle.spec_compiler.specs.Keyed.Transactions.{Standing, part_position, part_standing, root_standing, prepared}
use Rattle.spec_compiler.specs.Keyed.Compilation.{choice_transactions, branch_transactions, parts_transactions, path_transactions}
use Rattle.spec_compiler.specs.Keyed.Compilation.{choice_scripts, branch_scripts, parts_scripts, compilation}

-- the paths of a list
abbrev paths_of : {V : Type 0} → List (List PathStep × V) → List (List PathStep)
paths_of es = map (λ e. e.0) es

branch_paths_of-append : (xs ys : List Located) → branch_paths_of (xs ++ ys) ≡ branch_paths_of xs ++ branch_paths_of ys
branch_paths_of-append [] ys = refl
branch_paths_of-append (x ∷ xs) ys = by_spot x.subterm (branch_paths_of-append xs ys)
  where
    by_spot : (subterm : terms.Subterm) → branch_paths_of (xs ++ ys) ≡ branch_paths_of xs ++ branch_paths_of ys
        → if_branch subterm x.path (branch_paths_of (xs ++ ys)) ≡ if_branch subterm x.path (branch_paths_of xs) ++ branch_paths_of ys
    by_spot (terms.position c) h = h
    by_spot (terms.at_branch b) h = ap (λ (ps : List (List PathStep)). x.path ∷ ps) h

position_paths_of-append : (xs ys : List Located) → position_paths_of (xs ++ ys) ≡ position_paths_of xs ++ position_paths_of ys
position_paths_of-append [] ys = refl
position_paths_of-append (x ∷ xs) ys = by_spot x.subterm (position_paths_of-append xs ys)
  where
    by_spot : (subterm : terms.Subterm) → position_paths_of (xs ++ ys) ≡ position_paths_of xs ++ position_paths_of ys
        → if_position subterm x.path (position_paths_of (xs ++ ys)) ≡ if_position subterm x.path (position_paths_of xs) ++ position_paths_of ys
    by_spot (terms.position c) h = ap (λ (ps : List (List PathStep)). x.path ∷ ps) h
    by_spot (terms.at_branch b) h = h

module _ (hash : List ℕ → List ℕ) (keys : Keys) (s : Instance) where
  -- ---- the transactions

  mutual
    choice_paths : (here : Standing) (i : ℕ) (c : Contract)
        → paths_of (choice_transactions hash keys s here i c) ≡ branch_paths_of (branches_from here.position i c)
    choice_paths here i no_branch = refl
    choice_paths here i (branch b bs) =
        let p = branch_path here.position i in
        map-append (λ (e : List PathStep × Unsigned). e.0)
        (branch_transactions hash keys s here i (lock b) b) (choice_transactions hash keys s here (i + 1) bs)
        ∙ (λ j. one_paths here i (lock b) b j ++ choice_paths here (i + 1) bs j)
        ∙ ap (λ (ps : List (List PathStep)). p ∷ ps) (sym (branch_paths_of-append (under p b) (branches_from here.position (i + 1) bs)))

    one_paths : (here : Standing) (i l : ℕ) (b : term.Guarded)
        → paths_of (branch_transactions hash keys s here i l b)
        ≡ branch_path here.position i ∷ branch_paths_of (under (branch_path here.position i) b)
    one_paths here i l (auth party body) = one_paths here i l body
    one_paths here i l (after height body) = one_paths here i l body
    one_paths here i l (put_reveal puts reveals test next) =
        ap (λ (ps : List (List PathStep)). branch_path here.position i ∷ ps) (choice_paths _ 0 next)
    one_paths here i l (withdraw party) = refl
    one_paths here i l (split parts) =
        let p = branch_path here.position i in
        ap (λ (ps : List (List PathStep)). p ∷ ps) (parts_paths p _ 0 parts)

    parts_paths : (path : List PathStep) (made : Unsigned) (k : ℕ) (ps : Parts)
        → paths_of (parts_transactions hash keys s path made k ps) ≡ branch_paths_of (parts_from path k ps)
    parts_paths path made k no_part = refl
    parts_paths path made k (part v c ps) =
        map-append (λ (e : List PathStep × Unsigned). e.0)
        (choice_transactions hash keys s (part_standing hash keys s path made k v c) 0 c) (parts_transactions hash keys s path made (k + 1) ps)
        ∙ (λ j. choice_paths (part_standing hash keys s path made k v c) 0 c j ++ parts_paths path made (k + 1) ps j)
        ∙ sym (branch_paths_of-append (branches_from (part_position path k) 0 c) (parts_from path (k + 1) ps))

  prepared_paths : (es : List (List PathStep × Unsigned))
      → paths_of (map {B = List PathStep × Prepared} (λ e. (e.0, prepared hash e.1)) es) ≡ paths_of es
  prepared_paths [] = refl
  prepared_paths (e ∷ es) = ap (λ (ps : List (List PathStep)). e.0 ∷ ps) (prepared_paths es)

  pub paths_in_order : map (λ p. p.0) (compilation hash keys s).paths ≡ branch_paths s.advert.root
  paths_in_order = prepared_paths (path_transactions hash keys s) ∙ choice_paths (root_standing hash keys s) 0 s.advert.root

  -- ---- the scripts

  mutual
    choice_positions : (position : List PathStep) (i : ℕ) (c : Contract)
        → paths_of (choice_scripts hash keys s position i c) ≡ position_paths_of (branches_from position i c)
    choice_positions position i no_branch = refl
    choice_positions position i (branch b bs) =
        let p = branch_path position i in
        map-append (λ (e : List PathStep × List ℕ). e.0) (branch_scripts hash keys s p b) (choice_scripts hash keys s position (i + 1) bs)
        ∙ (λ j. one_positions p b j ++ choice_positions position (i + 1) bs j)
        ∙ sym (position_paths_of-append (under p b) (branches_from position (i + 1) bs))

    one_positions : (path : List PathStep) (b : term.Guarded) → paths_of (branch_scripts hash keys s path b) ≡ position_paths_of (under path b)
    one_positions path (auth party body) = one_positions path body
    one_positions path (after height body) = one_positions path body
    one_positions path (put_reveal puts reveals test next) = ap (λ (ps : List (List PathStep)). path ∷ ps) (choice_positions path 0 next)
    one_positions path (withdraw party) = refl
    one_positions path (split parts) = parts_positions path 0 parts

    parts_positions : (path : List PathStep) (k : ℕ) (ps : Parts)
        → paths_of (parts_scripts hash keys s path k ps) ≡ position_paths_of (parts_from path k ps)
    parts_positions path k no_part = refl
    parts_positions path k (part v c ps) =
        let q = part_position path k in
        ap (λ (ps : List (List PathStep)). q ∷ ps)
        (map-append (λ (e : List PathStep × List ℕ). e.0) (choice_scripts hash keys s q 0 c) (parts_scripts hash keys s path (k + 1) ps)
        ∙ (λ j. choice_positions q 0 c j ++ parts_positions path (k + 1) ps j)
        ∙ sym (position_paths_of-append (branches_from q 0 c) (parts_from path (k + 1) ps)))

  pub scripts_in_order : map (λ p. p.0) (compilation hash keys s).scripts ≡ position_paths s.advert.root
  scripts_in_order = ap (λ (ps : List (List PathStep)). [] ∷ ps) (choice_positions [] 0 s.advert.root)
