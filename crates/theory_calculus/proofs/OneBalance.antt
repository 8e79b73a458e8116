-- A position has one static balance: it is told by the steps of its path.
use Rattle.std.proofs.Common.{◌≡◌, ℕ, suc, ◌+◌, ℤ, pos, List, [], ◌∷◌, ◌++◌, Option, Some, None, refl, sym, ap, ◌∙◌, subst, arith, inl, inr, append_assoc, append-nil}
use Rattle.std.specs.Prelude.{slice_get, option_map, option_and_then}
use Rattle.spec_terms.specs.Advert.{Advert}
use Rattle.spec_terms.specs.Balance.{Funded, as_funded, after_put, branches_funded, funded_under, parts_funded, root_balance, all_funded}
use Rattle.spec_terms.specs.Core.{core}
use Rattle.spec_terms.specs.Paths.{Subterm, position, at_branch}
use Rattle.spec_terms.specs.Precondition.{Holding, volatile}
use Rattle.spec_terms.specs.Term.{Guarded, auth, after, put_reveal, withdraw, split, Contract, no_branch, branch, branches, Parts, no_part, part, parts_list, Pred}
use Rattle.spec_terms.specs.declared.path.PathStep.{PathStep}
use Rattle.spec_terms.specs.declared.path.PathStep.TheVariants.{Branch as To, Part as Into}
use Rattle.theory_calculus.specs.Members.{Is_in}
use Rattle.theory_calculus.proofs.Members.{in_append}

module _ (ds : List (List ℕ × Holding)) (fee : ℕ) where
  -- a position or branch, with the balance that it has from its position
  abbrev Place : Type 0
  Place = ℤ × Subterm

  abbrev below_place : ℤ → Guarded → PathStep → Option Place
  below_place v (put_reveal puts reveals test next) (To i) =
      option_map (λ b. (after_put ds fee v puts, at_branch b)) (slice_get (branches next) i)
  below_place v (put_reveal puts reveals test next) (Into k) = None
  below_place v (split parts) (Into k) = option_map (λ p. (pos (p.0), position (p.1))) (slice_get (parts_list parts) k)
  below_place v (split parts) (To i) = None
  below_place v (auth party body) s = None
  below_place v (after height body) s = None
  below_place v (withdraw party) s = None

  abbrev next_by : ℤ → Subterm → PathStep → Option Place
  next_by v (position c) (To i) = option_map (λ b. (v, at_branch b)) (slice_get (branches c) i)
  next_by v (position c) (Into k) = None
  next_by v (at_branch b) s = below_place v (core b) s

  abbrev next_place : Place → PathStep → Option Place
  next_place p s = next_by (p.0) (p.1) s

  abbrev walk : Place → List PathStep → Option Place
  walk p [] = Some p
  walk p (s ∷ ss) = option_and_then (λ q. walk q ss) (next_place p s)

  -- the balance of the position that stands there
  abbrev held_core : ℤ → Guarded → ℤ
  held_core v (put_reveal puts reveals test next) = after_put ds fee v puts
  held_core v (auth party body) = v
  held_core v (after height body) = v
  held_core v (withdraw party) = v
  held_core v (split parts) = v

  abbrev held_by : ℤ → Subterm → ℤ
  held_by v (position c) = v
  held_by v (at_branch b) = held_core v (core b)

  abbrev held : Place → ℤ
  held p = held_by (p.0) (p.1)

  -- the way from a place to a position tells its balance
  abbrev ToldSpot : Place → List PathStep → List PathStep → ℤ → Subterm → Type 0
  ToldSpot start q path v (position c) = (rest : List PathStep) × (path ≡ q ++ rest) × (option_map held (walk start rest) ≡ Some v)
  ToldSpot start q path v (at_branch b) = Unit {0}

  abbrev Told : Place → List PathStep → Funded → Type 0
  Told start q s = ToldSpot start q s.path s.balance s.subterm

  lift : (start there : Place) (q : List PathStep) (x : PathStep) (s : Funded) → next_place start x ≡ Some there
      → Told there (q ++ x ∷ []) s → Told start q s
  lift start there q x s e h = by_spot s.path s.balance s.subterm h
    where
      by_spot : (path : List PathStep) (v : ℤ) (subterm : Subterm) → ToldSpot there (q ++ x ∷ []) path v subterm → ToldSpot start q path v subterm
      by_spot path v (position c) t =
          (x ∷ t.0, t.1 ∙ append_assoc q (x ∷ []) t.0, ap (λ o. option_map held (option_and_then (λ r. walk r t.0) o)) e ∙ t.2)
      by_spot path v (at_branch b) t = tt

  abbrev Leads : ℤ → ℕ → Contract → Place → Type 0
  Leads v i c start = (j : ℕ) (b : Guarded) → slice_get (branches c) j ≡ Some b → next_place start (To (j + i)) ≡ Some (v, at_branch b)

  abbrev LeadsInto : ℕ → Parts → Place → Type 0
  LeadsInto k ps start =
      (j : ℕ) (x : ℕ × Contract) → slice_get (parts_list ps) j ≡ Some x → next_place start (Into (j + k)) ≡ Some (pos (x.0), position (x.1))

  first_leads : (v : ℤ) (i : ℕ) (b : Guarded) (bs : Contract) (start : Place) → Leads v i (branch b bs) start
      → next_place start (To i) ≡ Some (v, at_branch b)
  first_leads v i b bs start leads =
      let z : 0 + i ≡ i = omega arith in subst (λ m. next_place start (To m) ≡ Some (v, at_branch b)) z (leads 0 b refl)

  later_leads : (v : ℤ) (i : ℕ) (b : Guarded) (bs : Contract) (start : Place) → Leads v i (branch b bs) start → Leads v (i + 1) bs start
  later_leads v i b bs start leads j d e =
      let z : suc j + i ≡ j + (i + 1) = omega arith in
      subst (λ m. next_place start (To m) ≡ Some (v, at_branch d)) z (leads (suc j) d e)

  put_leads : (v : ℤ) (puts reveals : List (List ℕ)) (test : Pred) (next : Contract) (whole : Guarded)
      → core whole ≡ put_reveal puts reveals test next → Leads (after_put ds fee v puts) 0 next (v, at_branch whole)
  put_leads v puts reveals test next whole e j b f =
      let z : j + 0 ≡ j = omega arith in
      ap (λ c. below_place v c (To (j + 0))) e
      ∙ ap (λ m. option_map (λ (d : Guarded). (let q : Place = (after_put ds fee v puts, at_branch d) in q)) (slice_get (branches next) m)) z
      ∙ ap (option_map (λ (d : Guarded). (let q : Place = (after_put ds fee v puts, at_branch d) in q))) f

  split_leads : (v : ℤ) (parts : Parts) (whole : Guarded) → core whole ≡ split parts → LeadsInto 0 parts (v, at_branch whole)
  split_leads v parts whole e j x f =
      let z : j + 0 ≡ j = omega arith in
      ap (λ c. below_place v c (Into (j + 0))) e
      ∙ ap (λ m. option_map (λ (p : ℕ × Contract). (let q : Place = (pos (p.0), position (p.1)) in q)) (slice_get (parts_list parts) m)) z
      ∙ ap (option_map (λ (p : ℕ × Contract). (let q : Place = (pos (p.0), position (p.1)) in q))) f

  own_leads : (v : ℤ) (c : Contract) → Leads v 0 c (v, position c)
  own_leads v c j b f =
      let z : j + 0 ≡ j = omega arith in
      ap (λ m. option_map (λ (d : Guarded). (let q : Place = (v, at_branch d) in q)) (slice_get (branches c) m)) z
      ∙ ap (option_map (λ (d : Guarded). (let q : Place = (v, at_branch d) in q))) f

  first_part : (k w : ℕ) (c : Contract) (ps : Parts) (start : Place) → LeadsInto k (part w c ps) start
      → next_place start (Into k) ≡ Some (pos w, position c)
  first_part k w c ps start leads =
      let z : 0 + k ≡ k = omega arith in subst (λ m. next_place start (Into m) ≡ Some (pos w, position c)) z (leads 0 (w, c) refl)

  later_parts : (k w : ℕ) (c : Contract) (ps : Parts) (start : Place) → LeadsInto k (part w c ps) start → LeadsInto (k + 1) ps start
  later_parts k w c ps start leads j x e =
      let z : suc j + k ≡ j + (k + 1) = omega arith in
      subst (λ m. next_place start (Into m) ≡ Some (pos (x.0), position (x.1))) z (leads (suc j) x e)

  mutual
    choice_told : (q : List PathStep) (v : ℤ) (i : ℕ) (c : Contract) (start : Place) → Leads v i c start
        → (s : Funded) → Is_in s (branches_funded ds fee q v i c) → Told start q s
    choice_told q v i no_branch start leads s h = absurd h
    choice_told q v i (branch b bs) start leads s (inl e) = subst (Told start q) (sym e) tt
    choice_told q v i (branch b bs) start leads s (inr h) =
        elim (in_append s (funded_under ds fee (q ++ To i ∷ []) v b) (branches_funded ds fee q v (i + 1) bs) h) [
          | inl a ↦ lift start (v, at_branch b) q (To i) s (first_leads v i b bs start leads) (under_told (q ++ To i ∷ []) v b b refl s a)
          | inr a ↦ choice_told q v (i + 1) bs start (later_leads v i b bs start leads) s a
        ]

    under_told : (p : List PathStep) (v : ℤ) (b whole : Guarded) → core whole ≡ core b → (s : Funded) → Is_in s (funded_under ds fee p v b)
        → Told (v, at_branch whole) p s
    under_told p v (auth party body) whole e s h = under_told p v body whole e s h
    under_told p v (after height body) whole e s h = under_told p v body whole e s h
    under_told p v (put_reveal puts reveals test next) whole e s (inl k) =
        subst (Told (v, at_branch whole) p) (sym k) ([], sym (append-nil p), ap (λ c. Some (held_core v c)) e)
    under_told p v (put_reveal puts reveals test next) whole e s (inr h) =
        choice_told p (after_put ds fee v puts) 0 next (v, at_branch whole) (put_leads v puts reveals test next whole e) s h
    under_told p v (withdraw party) whole e s h = absurd h
    under_told p v (split parts) whole e s h = parts_told p 0 parts (v, at_branch whole) (split_leads v parts whole e) s h

    parts_told : (p : List PathStep) (k : ℕ) (ps : Parts) (start : Place) → LeadsInto k ps start
        → (s : Funded) → Is_in s (parts_funded ds fee p k ps) → Told start p s
    parts_told p k no_part start leads s h = absurd h
    parts_told p k (part w c ps) start leads s (inl e) =
        subst (Told start p) (sym e) (
          Into k ∷ [],
          refl,
          ap (λ o. option_map held (option_and_then (λ r. walk r []) o))
              (first_part k w c ps start leads),
        )
    parts_told p k (part w c ps) start leads s (inr h) =
        elim (in_append s (branches_funded ds fee (p ++ Into k ∷ []) (pos w) 0 c) (parts_funded ds fee p (k + 1) ps) h) [
          | inl a ↦ lift start (pos w, position c) p (Into k) s (first_part k w c ps start leads)
              (choice_told (p ++ Into k ∷ []) (pos w) 0 c (pos w, position c) (own_leads (pos w) c) s a)
          | inr a ↦ parts_told p (k + 1) ps start (later_parts k w c ps start leads) s a
        ]

module _ (a : Advert) where
  abbrev ds : List (List ℕ × Holding)
  ds = volatile a.pre

  told : (s : Funded) → Is_in s (all_funded a) → Told ds a.fee (root_balance a, position a.root) [] s
  told s (inl e) = subst (Told ds a.fee (root_balance a, position a.root) []) (sym e) ([], refl, refl)
  told s (inr h) =
      choice_told ds a.fee [] (root_balance a) 0 a.root (root_balance a, position a.root) (own_leads ds a.fee (root_balance a) a.root) s h

  some_same : (v w : ℤ) → (let o : Option ℤ = Some v in o) ≡ Some w → v ≡ w
  some_same v w e = cc

  pub one_balance : (q : List PathStep) (v w : ℤ) (c d : Contract) → Is_in (as_funded q v (position c)) (all_funded a)
      → Is_in (as_funded q w (position d)) (all_funded a) → w ≡ v
  one_balance q v w c d h k =
      let t = told (as_funded q v (position c)) h in
      let u = told (as_funded q w (position d)) k in
      let start : ℤ × Subterm = (root_balance a, position a.root) in
      let x : option_map (held ds a.fee) (walk ds a.fee start q) ≡ Some v =
      ap (λ r. option_map (held ds a.fee) (walk ds a.fee start r)) t.1 ∙ t.2 in
      let y : option_map (held ds a.fee) (walk ds a.fee start q) ≡ Some w =
      ap (λ r. option_map (held ds a.fee) (walk ds a.fee start r)) u.1 ∙ u.2 in
      some_same w v (sym y ∙ x)
