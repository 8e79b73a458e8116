-- The rows of a contract show each of its branches as often as it stands in it.
use Rattle.std.proofs.Common.{◌≡◌, ℕ, suc, ◌+◌, List, [], ◌∷◌, ◌++◌, length, Bool, true, false, Option, Some, None, refl, sym, ap, ◌∙◌, subst, append_assoc, arith, length-append}
use Rattle.std.specs.Prelude.{if◌then◌else◌}
use Rattle.spec_terms.specs.Term.{Guarded, auth, after, put_reveal, withdraw, split, Contract, no_branch, branch, Parts, no_part, part}
use Rattle.spec_terms.specs.Advert.{Advert}
use Rattle.spec_terms.specs.Core.{core}
use Rattle.spec_terms.specs.Paths.{Subterm, position, at_branch, path_eq}
use Rattle.spec_terms.specs.PathSameness.{path_eq-Decides}
use Rattle.spec_terms.specs.Order.{Located, branches_from, under, parts_from, if_branch, branch_paths_of}
use Rattle.spec_terms.specs.declared.path.PathStep.{PathStep}
use Rattle.spec_terms.specs.declared.path.PathStep.TheVariants.{Branch as To, Part as Into}
use Rattle.spec_page.specs.declared.way_row.Payment.{Payment}
use Rattle.spec_page.specs.declared.way_row.WayRow.{WayRow}
use Rattle.spec_page.specs.declared.way_row.WayRow.TheVariants.{Choice, Way}
use Rattle.spec_page.specs.Ways.{value_after, first_value, sole_payee, payment, payments_to, sole_payments, parts_payments, payments_of}
use Rattle.spec_page.specs.Ways.{choice_rows, depth_below, part_below, unless_paid, branches_rows, rows_under, parts_rows}
use Rattle.spec_page.specs.Statements.{count_path, paid_paths, shown_paths, RowsShowBranches}

-- ---- paths

false_unless : (b : Bool) → (b ≡ true → ⊥) → b ≡ false
false_unless true h = absurd (h refl)
false_unless false h = refl

same_path : (p : List PathStep) → path_eq p p ≡ true
same_path p = (path_eq-Decides p p).1 refl

-- a path isn't one that goes on from it
longer_path : (p : List PathStep) (s : PathStep) (rest : List PathStep) → path_eq (p ++ s ∷ rest) p ≡ false
longer_path p s rest =
    false_unless _ (λ h. let e = ap (λ (q : List PathStep). length q) ((path_eq-Decides (p ++ s ∷ rest) p).0 h) in
    let n : length (p ++ s ∷ rest) ≡ length p + suc (length rest) = length-append p (s ∷ rest) in omega (arith, e, n))

-- ---- lists of paths

shown_paths-append : (xs ys : List WayRow) → shown_paths (xs ++ ys) ≡ shown_paths xs ++ shown_paths ys
shown_paths-append [] ys = refl
shown_paths-append (Choice depth share ∷ xs) ys = shown_paths-append xs ys
shown_paths-append (Way path depth share conditions payments ∷ xs) ys =
    ap (λ (ps : List (List PathStep)). path ∷ ps)
    (ap (λ (ps : List (List PathStep)). paid_paths path payments ++ ps) (shown_paths-append xs ys)
    ∙ sym (append_assoc (paid_paths path payments) (shown_paths xs) (shown_paths ys)))

pub branch_paths_of-append : (xs ys : List Located) → branch_paths_of (xs ++ ys) ≡ branch_paths_of xs ++ branch_paths_of ys
branch_paths_of-append [] ys = refl
branch_paths_of-append (x ∷ xs) ys = by_subterm x.subterm (branch_paths_of-append xs ys)
  where
    by_subterm : (subterm : Subterm) → branch_paths_of (xs ++ ys) ≡ branch_paths_of xs ++ branch_paths_of ys
        → if_branch subterm x.path (branch_paths_of (xs ++ ys)) ≡ if_branch subterm x.path (branch_paths_of xs) ++ branch_paths_of ys
    by_subterm (position c) h = h
    by_subterm (at_branch b) h = ap (λ (ps : List (List PathStep)). x.path ∷ ps) h

paid-append : (p : List PathStep) (xs ys : List Payment) → paid_paths p (xs ++ ys) ≡ paid_paths p xs ++ paid_paths p ys
paid-append p [] ys = refl
paid-append p (x ∷ xs) ys = by_path (path_eq x.path p) (paid-append p xs ys)
  where
    by_path : (own : Bool) → paid_paths p (xs ++ ys) ≡ paid_paths p xs ++ paid_paths p ys
        → (if own then paid_paths p (xs ++ ys) else x.path ∷ paid_paths p (xs ++ ys))
        ≡ (if own then paid_paths p xs else x.path ∷ paid_paths p xs) ++ paid_paths p ys
    by_path true h = h
    by_path false h = ap (λ (ps : List (List PathStep)). x.path ∷ ps) h

-- a row has its own branch, and those of the payments under it
own_paid : (a : Advert) (p : List PathStep) (value : ℕ) (party : List ℕ) → paid_paths p (payment a p value party ∷ []) ≡ []
own_paid a p value party = ap (λ (own : Bool). if own then paid_paths p [] else p ∷ paid_paths p []) (same_path p)

under_paid : (a : Advert) (p rest : List PathStep) (s : PathStep) (value : ℕ) (party : List ℕ)
    → paid_paths p (payment a (p ++ s ∷ rest) value party ∷ []) ≡ (p ++ s ∷ rest) ∷ []
under_paid a p rest s value party =
    ap (λ (own : Bool). if own then paid_paths p [] else (p ++ s ∷ rest) ∷ paid_paths p []) (longer_path p s rest)

-- ---- counts

no_choice : (depth : ℕ) (share : Option ℕ) (c : Contract) (rows : List WayRow)
    → shown_paths (choice_rows depth share c ++ rows) ≡ shown_paths rows
no_choice depth share no_branch rows = refl
no_choice depth share (branch b no_branch) rows = refl
no_choice depth share (branch b (branch c cs)) rows = refl

-- a position that pays alone has one branch
one_branch : (c : Contract) (party : List ℕ) → sole_payee c ≡ Some party → c ≡ branch (withdraw party) no_branch
one_branch no_branch party e = cc
one_branch (branch (auth x b) no_branch) party e = cc
one_branch (branch (after h b) no_branch) party e = cc
one_branch (branch (put_reveal puts reveals test next) no_branch) party e = cc
one_branch (branch (withdraw x) no_branch) party e = cc
one_branch (branch (split parts) no_branch) party e = cc
one_branch (branch b (branch c cs)) party e = cc

module _ (w : List PathStep) where
  count-append : (xs ys : List (List PathStep)) → count_path w (xs ++ ys) ≡ count_path w xs + count_path w ys
  count-append [] ys = omega arith
  count-append (x ∷ xs) ys = let h = count-append xs ys in omega (arith, h)

  -- how often it is shown, and how often it stands there
  abbrev shown : List WayRow → ℕ
  shown rows = count_path w (shown_paths rows)

  abbrev there : List Located → ℕ
  there xs = count_path w (branch_paths_of xs)

  shown-append : (xs ys : List WayRow) → shown (xs ++ ys) ≡ shown xs + shown ys
  shown-append xs ys = ap (count_path w) (shown_paths-append xs ys) ∙ count-append (shown_paths xs) (shown_paths ys)

  there-append : (xs ys : List Located) → there (xs ++ ys) ≡ there xs + there ys
  there-append xs ys = ap (count_path w) (branch_paths_of-append xs ys) ∙ count-append (branch_paths_of xs) (branch_paths_of ys)

  abbrev paid : List PathStep → List Payment → ℕ
  paid p payments = count_path w (paid_paths p payments)

  paid_both : (p : List PathStep) (xs ys : List Payment) → paid p (xs ++ ys) ≡ paid p xs + paid p ys
  paid_both p xs ys = ap (count_path w) (paid-append p xs ys) ∙ count-append (paid_paths p xs) (paid_paths p ys)

  -- a position under the branch at p, by a payment or by rows
  by_payee : (a : Advert) (p rest : List PathStep) (s : PathStep) (q : List PathStep) (value : ℕ) (c : Contract) (rows : List WayRow) (o : Option (List ℕ))
      → sole_payee c ≡ o → q ++ To 0 ∷ [] ≡ p ++ s ∷ rest → shown rows ≡ there (branches_from q 0 c)
      → paid p (payments_to a q value o) + shown (unless_paid o rows) ≡ there (branches_from q 0 c)
  by_payee a p rest s q value c rows None e at h = omega (arith, h)
  by_payee a p rest s q value c rows (Some party) e at h =
      let one : paid p (payment a (q ++ To 0 ∷ []) value party ∷ []) ≡ count_path w ((q ++ To 0 ∷ []) ∷ []) =
      subst (λ (r : List PathStep). paid p (payment a r value party ∷ []) ≡ count_path w (r ∷ [])) (sym at) (ap (count_path w) (under_paid a p rest s value party)) in
      let all : there (branches_from q 0 c) ≡ count_path w ((q ++ To 0 ∷ []) ∷ []) = ap (λ (x : Contract). there (branches_from q 0 x)) (one_branch c party e) in
      omega (arith, one, all)

  module _ (a : Advert) where
    mutual
      branches_shown : (q : List PathStep) (depth : ℕ) (share : Option ℕ) (value i : ℕ) (c : Contract)
          → shown (branches_rows a q depth share value i c) ≡ there (branches_from q i c)
      branches_shown q depth share value i no_branch = refl
      branches_shown q depth share value i (branch b bs) =
          let p = q ++ To i ∷ [] in
          let rows = rows_under a p (depth + 1) value b in
          let more = branches_rows a q depth share value (i + 1) bs in
          let here : count_path w (paid_paths p (payments_of a p value (core b)) ++ shown_paths (rows ++ more))
          ≡ paid p (payments_of a p value (core b)) + shown (rows ++ more) = count-append (paid_paths p (payments_of a p value (core b))) (shown_paths (rows ++ more)) in
          let split_rows : shown (rows ++ more) ≡ shown rows + shown more = shown-append rows more in
          let below : there (under p b ++ branches_from q (i + 1) bs) ≡ there (under p b) + there (branches_from q (i + 1) bs) =
          there-append (under p b) (branches_from q (i + 1) bs) in
          let first : paid p (payments_of a p value (core b)) + shown rows ≡ there (under p b) = branch_shown p (depth + 1) value b in
          let rest : shown more ≡ there (branches_from q (i + 1) bs) = branches_shown q depth share value (i + 1) bs in
          omega (arith, here, split_rows, below, first, rest)

      branch_shown : (p : List PathStep) (depth value : ℕ) (b : Guarded)
          → paid p (payments_of a p value (core b)) + shown (rows_under a p depth value b) ≡ there (under p b)
      branch_shown p depth value (auth party body) = branch_shown p depth value body
      branch_shown p depth value (after height body) = branch_shown p depth value body
      branch_shown p depth value (put_reveal puts reveals test next) =
          by_payee a p [] (To 0) p (value_after a value puts) next _ (sole_payee next) refl refl
          (ap (count_path w) (no_choice depth None next _)
          ∙ branches_shown p (depth_below depth next) None (value_after a value puts) 0 next)
      branch_shown p depth value (withdraw party) =
          let own : paid p (payment a p value party ∷ []) ≡ 0 = ap (count_path w) (own_paid a p value party) in omega (arith, own)
      branch_shown p depth value (split parts) = parts_shown p depth 0 parts

      parts_shown : (p : List PathStep) (depth k : ℕ) (ps : Parts)
          → paid p (parts_payments a p k ps) + shown (parts_rows a p depth k ps) ≡ there (parts_from p k ps)
      parts_shown p depth k no_part = refl
      parts_shown p depth k (part v c ps) =
          let q = p ++ Into k ∷ [] in
          let rows = choice_rows depth (Some v) c ++ branches_rows a q (depth_below depth c) (part_below (Some v) c) v 0 c in
          let more = parts_rows a p depth (k + 1) ps in
          let one : paid p (sole_payments a q v c) + shown (unless_paid (sole_payee c) rows) ≡ there (branches_from q 0 c) =
          by_payee a p (To 0 ∷ []) (Into k) q v c rows (sole_payee c) refl (append_assoc p (Into k ∷ []) (To 0 ∷ []))
          (ap (count_path w) (no_choice depth (Some v) c _) ∙ branches_shown q (depth_below depth c) (part_below (Some v) c) v 0 c) in
          let rest : paid p (parts_payments a p (k + 1) ps) + shown more ≡ there (parts_from p (k + 1) ps) = parts_shown p depth (k + 1) ps in
          let payments : paid p (sole_payments a q v c ++ parts_payments a p (k + 1) ps)
          ≡ paid p (sole_payments a q v c) + paid p (parts_payments a p (k + 1) ps) = paid_both p (sole_payments a q v c) (parts_payments a p (k + 1) ps) in
          let both : shown (unless_paid (sole_payee c) rows ++ more) ≡ shown (unless_paid (sole_payee c) rows) + shown more =
          shown-append (unless_paid (sole_payee c) rows) more in
          let below : there (branches_from q 0 c ++ parts_from p (k + 1) ps) ≡ there (branches_from q 0 c) + there (parts_from p (k + 1) ps) =
          there-append (branches_from q 0 c) (parts_from p (k + 1) ps) in
          omega (arith, one, rest, payments, both, below)

pub rows_show_branches : RowsShowBranches
rows_show_branches a p =
    ap (count_path p) (no_choice 0 None a.root _) ∙ branches_shown p a [] (depth_below 0 a.root) None (first_value a) 0 a.root
