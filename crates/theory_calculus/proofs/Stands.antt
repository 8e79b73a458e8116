-- What stands below a stand of a contract is a stand of it too, and what the check has seen of each.
use Rattle.std.proofs.Common.{◌≡◌, ℕ, zero, suc, ◌+◌, ℤ, pos, List, [], ◌∷◌, ◌++◌, Bool, false, Option, Some, None, refl, sym, ap, ◌∙◌, subst, arith, inl, inr}
use Rattle.std.specs.Prelude.{slice_get, option_map, option_and_then}
use Rattle.spec_data.proofs.ListLemmas.{or_else-none}
use Rattle.spec_terms.specs.Advert.{Advert}
use Rattle.spec_terms.specs.Balance.{Funded, as_funded, after_put, branches_funded, funded_under, parts_funded, root_balance, all_funded}
use Rattle.spec_terms.specs.Core.{core, continuation}
use Rattle.spec_terms.specs.Faults.{place_of, place_if, first_place}
use Rattle.spec_terms.specs.Paths.{Subterm, position, at_branch, next_subterm, below, subterm_from, as_contract, contract_under}
use Rattle.spec_terms.specs.Precondition.{Holding, volatile}
use Rattle.spec_terms.specs.Term.{Guarded, auth, after, put_reveal, withdraw, split, Contract, no_branch, branch, branches, Parts, no_part, part, parts_list, Pred}
use Rattle.spec_terms.proofs.PathLemmas.{subterm_from-step}
use Rattle.spec_terms.specs.declared.path.PathStep.{PathStep}
use Rattle.spec_terms.specs.declared.path.PathStep.TheVariants.{Branch as To, Part as Into}
use Rattle.theory_calculus.specs.Members.{Is_in}
use Rattle.theory_calculus.proofs.Members.{in_left, in_right, in_append}
use Rattle.theory_calculus.proofs.Faultless.{no_place}

-- ---- what the check has seen

-- where no stand has a place, the test is false at each
pub none_at : (t : Funded → Bool) (ss : List Funded) (s : Funded) → first_place t ss ≡ None → Is_in s ss → t s ≡ false
none_at t [] s h i = absurd i
none_at t (x ∷ ss) s h (inl e) =
    let p = or_else-none (place_if t x) (first_place t ss) h in
    subst (λ y. t y ≡ false) (sym e) (no_place (t x) (place_of x.subterm x) p.0)
none_at t (x ∷ ss) s h (inr i) = none_at t ss s (or_else-none (place_if t x) (first_place t ss) h).1 i

-- ---- below

module _ (ds : List (List ℕ × Holding)) (fee : ℕ) where
  -- what stands below a position or a branch
  abbrev pub under_spot : List PathStep → ℤ → Subterm → List Funded
  under_spot q v (position c) = branches_funded ds fee q v 0 c
  under_spot q v (at_branch b) = funded_under ds fee q v b

  abbrev pub under_stand : Funded → List Funded
  under_stand s = under_spot s.path s.balance s.subterm

  abbrev pub AllAmong : List Funded → List Funded → Type 0
  AllAmong xs ys = (s : Funded) → Is_in s xs → Is_in s ys

  mutual
    pub choice_closed : (q : List PathStep) (v : ℤ) (i : ℕ) (c : Contract) (s : Funded) → Is_in s (branches_funded ds fee q v i c)
        → AllAmong (under_stand s) (branches_funded ds fee q v i c)
    choice_closed q v i no_branch s h = absurd h
    choice_closed q v i (branch b bs) s (inl e) =
        subst (λ y. AllAmong (under_stand y) (branches_funded ds fee q v i (branch b bs))) (sym e)
        (λ t k. inr (in_left t (funded_under ds fee (q ++ To i ∷ []) v b) (branches_funded ds fee q v (i + 1) bs) k))
    choice_closed q v i (branch b bs) s (inr h) =
        elim (in_append s (funded_under ds fee (q ++ To i ∷ []) v b) (branches_funded ds fee q v (i + 1) bs) h) [
          | inl a ↦ (λ t k. inr (in_left t (funded_under ds fee (q ++ To i ∷ []) v b) (branches_funded ds fee q v (i + 1) bs)
              (under_closed (q ++ To i ∷ []) v b s a t k)))
          | inr a ↦ (λ t k. inr (in_right t (funded_under ds fee (q ++ To i ∷ []) v b) (branches_funded ds fee q v (i + 1) bs)
              (choice_closed q v (i + 1) bs s a t k)))
        ]

    pub under_closed : (p : List PathStep) (v : ℤ) (b : Guarded) (s : Funded) → Is_in s (funded_under ds fee p v b)
        → AllAmong (under_stand s) (funded_under ds fee p v b)
    under_closed p v (auth party body) s h = under_closed p v body s h
    under_closed p v (after height body) s h = under_closed p v body s h
    under_closed p v (put_reveal puts reveals test next) s (inl e) =
        subst (λ y. AllAmong (under_stand y) (funded_under ds fee p v (put_reveal puts reveals test next))) (sym e) (λ t k. inr k)
    under_closed p v (put_reveal puts reveals test next) s (inr h) = λ t k. inr (choice_closed p (after_put ds fee v puts) 0 next s h t k)
    under_closed p v (withdraw party) s h = absurd h
    under_closed p v (split parts) s h = parts_closed p 0 parts s h

    pub parts_closed : (p : List PathStep) (k : ℕ) (ps : Parts) (s : Funded) → Is_in s (parts_funded ds fee p k ps)
        → AllAmong (under_stand s) (parts_funded ds fee p k ps)
    parts_closed p k no_part s h = absurd h
    parts_closed p k (part v c ps) s (inl e) =
        subst (λ y. AllAmong (under_stand y) (parts_funded ds fee p k (part v c ps))) (sym e)
        (λ t j. inr (in_left t (branches_funded ds fee (p ++ Into k ∷ []) (pos v) 0 c) (parts_funded ds fee p (k + 1) ps) j))
    parts_closed p k (part v c ps) s (inr h) =
        elim (in_append s (branches_funded ds fee (p ++ Into k ∷ []) (pos v) 0 c) (parts_funded ds fee p (k + 1) ps) h) [
          | inl a ↦ (λ t j. inr (in_left t (branches_funded ds fee (p ++ Into k ∷ []) (pos v) 0 c) (parts_funded ds fee p (k + 1) ps)
              (choice_closed (p ++ Into k ∷ []) (pos v) 0 c s a t j)))
          | inr a ↦ (λ t j. inr (in_right t (branches_funded ds fee (p ++ Into k ∷ []) (pos v) 0 c) (parts_funded ds fee p (k + 1) ps)
              (parts_closed p (k + 1) ps s a t j)))
        ]

  -- a branch of a choice
  branch_there : (q : List PathStep) (v : ℤ) (i j : ℕ) (c : Contract) (b : Guarded) → slice_get (branches c) j ≡ Some b
      → Is_in (as_funded (q ++ To (j + i) ∷ []) v (at_branch b)) (branches_funded ds fee q v i c)
  branch_there q v i j no_branch b h = cc
  branch_there q v i zero (branch d c) b h =
      let z : d ≡ b = cc in
      let n : 0 + i ≡ i = omega arith in
      inl (λ k. as_funded (q ++ To (n k) ∷ []) v (at_branch (sym z k)))
  branch_there q v i (suc j) (branch d c) b h =
      let n : j + (i + 1) ≡ suc j + i = omega arith in
      inr (in_right _ (funded_under ds fee (q ++ To i ∷ []) v d) (branches_funded ds fee q v (i + 1) c)
      (subst (λ m. Is_in (as_funded (q ++ To m ∷ []) v (at_branch b)) (branches_funded ds fee q v (i + 1) c)) n
      (branch_there q v (i + 1) j c b h)))

  -- a part of a split
  part_there : (p : List PathStep) (k j : ℕ) (ps : Parts) (x : ℕ × Contract) → slice_get (parts_list ps) j ≡ Some x
      → Is_in (as_funded (p ++ Into (j + k) ∷ []) (pos (x.0)) (position (x.1))) (parts_funded ds fee p k ps)
  part_there p k j no_part x h = cc
  part_there p k zero (part w c ps) x h =
      let z : (let y : ℕ × Contract = (w, c) in y) ≡ x = cc in
      let n : 0 + k ≡ k = omega arith in
      inl (λ i. as_funded (p ++ Into (n i) ∷ []) (pos ((sym z i).0)) (position ((sym z i).1)))
  part_there p k (suc j) (part w c ps) x h =
      let n : j + (k + 1) ≡ suc j + k = omega arith in
      inr (in_right _ (branches_funded ds fee (p ++ Into k ∷ []) (pos w) 0 c) (parts_funded ds fee p (k + 1) ps)
      (subst (λ m. Is_in (as_funded (p ++ Into m ∷ []) (pos (x.0)) (position (x.1))) (parts_funded ds fee p (k + 1) ps)) n
      (part_there p (k + 1) j ps x h)))

  -- the core has below it what the branch has
  under_core : (p : List PathStep) (v : ℤ) (b : Guarded) → funded_under ds fee p v b ≡ funded_under ds fee p v (core b)
  under_core p v (auth party body) = under_core p v body
  under_core p v (after height body) = under_core p v body
  under_core p v (put_reveal puts reveals test next) = refl
  under_core p v (withdraw party) = refl
  under_core p v (split parts) = refl

-- ---- of one contract

module _ (a : Advert) where
  abbrev ds : List (List ℕ × Holding)
  ds = volatile a.pre

  closed : (s : Funded) → Is_in s (all_funded a) → AllAmong ds a.fee (under_stand ds a.fee s) (all_funded a)
  closed s (inl e) = subst (λ y. AllAmong ds a.fee (under_stand ds a.fee y) (all_funded a)) (sym e) (λ t k. inr k)
  closed s (inr h) = λ t k. inr (choice_closed ds a.fee [] (root_balance a) 0 a.root s h t k)

  -- each branch of a position that stands there
  pub stands_branch : (q : List PathStep) (v : ℤ) (c : Contract) (i : ℕ) (b : Guarded) → Is_in (as_funded q v (position c)) (all_funded a)
      → slice_get (branches c) i ≡ Some b → Is_in (as_funded (q ++ To i ∷ []) v (at_branch b)) (all_funded a)
  stands_branch q v c i b h e =
      let n : i + 0 ≡ i = omega arith in
      closed (as_funded q v (position c)) h (as_funded (q ++ To i ∷ []) v (at_branch b))
      (subst (λ m. Is_in (as_funded (q ++ To m ∷ []) v (at_branch b)) (branches_funded ds a.fee q v 0 c)) n (branch_there ds a.fee q v 0 i c b e))

  -- and what its core goes on with
  pub stands_next : (q : List PathStep) (v : ℤ) (b : Guarded) (puts reveals : List (List ℕ)) (test : Pred) (next : Contract)
      → Is_in (as_funded q v (at_branch b)) (all_funded a) → core b ≡ put_reveal puts reveals test next
      → Is_in (as_funded q (after_put ds a.fee v puts) (position next)) (all_funded a)
  stands_next q v b puts reveals test next h e =
      let s = as_funded q (after_put ds a.fee v puts) (position next) in
      let u : funded_under ds a.fee q v b ≡ funded_under ds a.fee q v (put_reveal puts reveals test next) =
      under_core ds a.fee q v b ∙ ap (funded_under ds a.fee q v) e in
      closed (as_funded q v (at_branch b)) h s (subst (λ xs. Is_in s xs) (sym u) (inl refl))

  pub stands_part : (q : List PathStep) (v : ℤ) (b : Guarded) (parts : Parts) (k : ℕ) (x : ℕ × Contract)
      → Is_in (as_funded q v (at_branch b)) (all_funded a) → core b ≡ split parts → slice_get (parts_list parts) k ≡ Some x
      → Is_in (as_funded (q ++ Into k ∷ []) (pos (x.0)) (position (x.1))) (all_funded a)
  stands_part q v b parts k x h e f =
      let s = as_funded (q ++ Into k ∷ []) (pos (x.0)) (position (x.1)) in
      let n : k + 0 ≡ k = omega arith in
      let u : funded_under ds a.fee q v b ≡ parts_funded ds a.fee q 0 parts = under_core ds a.fee q v b ∙ ap (funded_under ds a.fee q v) e in
      closed (as_funded q v (at_branch b)) h s
      (subst (λ xs. Is_in s xs) (sym u) (subst (λ m. Is_in (as_funded (q ++ Into m ∷ []) (pos (x.0)) (position (x.1)))
      (parts_funded ds a.fee q 0 parts)) n (part_there ds a.fee q 0 k parts x f)))

-- ---- paths

-- the branch of a position at the end of its path
spot_branch : (root : Contract) (q : List PathStep) (c : Contract) (i : ℕ) (b : Guarded) → contract_under root q ≡ Some c
    → slice_get (branches c) i ≡ Some b → subterm_from (position root) (q ++ To i ∷ []) ≡ Some (at_branch b)
spot_branch root q c i b h e = subterm_from-step (position root) q (To i) ∙ by_spot (subterm_from (position root) q) h
  where
    here : (d : Contract) → d ≡ c → option_map at_branch (slice_get (branches d) i) ≡ Some (at_branch b)
    here d z = ap (λ y. option_map at_branch (slice_get (branches y) i)) z ∙ ap (option_map at_branch) e

    by_core : (x : Guarded) → continuation x ≡ Some c → below x (To i) ≡ Some (at_branch b)
    by_core (put_reveal puts reveals test next) k = here next (let z : next ≡ c = cc in z)
    by_core (auth party body) k = cc
    by_core (after height body) k = cc
    by_core (withdraw party) k = cc
    by_core (split parts) k = cc

    by_spot : (o : Option Subterm) → option_and_then as_contract o ≡ Some c → option_and_then (λ s. next_subterm s (To i)) o ≡ Some (at_branch b)
    by_spot None k = cc
    by_spot (Some (position d)) k = here d (let z : d ≡ c = cc in z)
    by_spot (Some (at_branch d)) k = by_core (core d) k

pub choice_next : (root : Contract) (q : List PathStep) (c : Contract) (i : ℕ) (b : Guarded) (puts reveals : List (List ℕ)) (test : Pred)
    (next : Contract)
    → contract_under root q ≡ Some c → slice_get (branches c) i ≡ Some b → core b ≡ put_reveal puts reveals test next
    → contract_under root (q ++ To i ∷ []) ≡ Some next
choice_next root q c i b puts reveals test next h e k = ap (option_and_then as_contract) (spot_branch root q c i b h e) ∙ ap continuation k

pub choice_part : (root : Contract) (q : List PathStep) (c : Contract) (i : ℕ) (b : Guarded) (parts : Parts) (k : ℕ) (x : ℕ × Contract)
    → contract_under root q ≡ Some c → slice_get (branches c) i ≡ Some b → core b ≡ split parts → slice_get (parts_list parts) k ≡ Some x
    → contract_under root ((q ++ To i ∷ []) ++ Into k ∷ []) ≡ Some (x.1)
choice_part root q c i b parts k x h e s f =
    ap (option_and_then as_contract)
    (subterm_from-step (position root) (q ++ To i ∷ []) (Into k)
    ∙ ap (option_and_then (λ y. next_subterm y (Into k))) (spot_branch root q c i b h e) ∙ ap (λ y. below y (Into k)) s
    ∙ ap (option_map (λ p. position p.1)) f)
