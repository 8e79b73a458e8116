-- What stands at the end of a path, and what of it the term tells.
use Rattle.std.proofs.Common.{◌≡◌, ℕ, List, [], ◌∷◌, ◌++◌, Option, Some, None, refl, sym, ap, ◌∙◌, subst, append_assoc, append-nil}
use Rattle.std.specs.Prelude.{slice_get}
use Rattle.std.specs.Option.{option_map, option_and_then}
use Rattle.spec_terms.specs.Term as term
use Rattle.spec_terms.specs.Term.{Contract, branches, parts_list, auth, after, put_reveal, withdraw, split}
use Rattle.spec_terms.specs.Core.{core, continuation}
use Rattle.spec_terms.specs.Paths as paths
use Rattle.spec_terms.specs.Paths.{Subterm, below, next_subterm, subterm_from, as_contract}
use Rattle.spec_terms.specs.declared.path.PathStep.{PathStep}
use Rattle.spec_terms.specs.declared.path.PathStep.TheVariants.{Branch as To, Part as Into}
use Rattle.spec_compiler.specs.Keyed.Keys.{Keys}
use Rattle.spec_compiler.specs.Keyed.Instance.{Instance, branch_path, position_script}
use Rattle.spec_compiler.specs.declared.unsigned.Unsigned.{Unsigned}
use Rattle.spec_compiler.specs.Keyed.Transactions.{Standing, branch_unsigned, part_position, part_standing, root_standing}
use Rattle.spec_compiler.specs.Keyed.ByPath.{PathEnd, at_position, at_branch, branch_end, continued_end, part_end, next_end, end_from, end_at, as_position, position_at}
use Rattle.theory_script.specs.Keyed.Listed.{StandsAt}

pub some_same : {X : Type 0} {x y : X} → Some x ≡ Some y → x ≡ y
some_same e = cc

module _ (hash : List ℕ → List ℕ) (keys : Keys) (s : Instance) where
  -- ---- one more step at the end

  pub last_step : (o : Option PathEnd) → option_and_then (λ (q : PathEnd). end_from hash keys s q []) o ≡ o
  last_step None = refl
  last_step (Some q) = refl

  chained : (xs : List PathStep) (step : PathStep) (o : Option PathEnd)
      → ((q : PathEnd) → end_from hash keys s q (xs ++ step ∷ []) ≡ option_and_then (next_end hash keys s step) (end_from hash keys s q xs))
      → option_and_then (λ (q : PathEnd). end_from hash keys s q (xs ++ step ∷ [])) o
      ≡ option_and_then (next_end hash keys s step) (option_and_then (λ (q : PathEnd). end_from hash keys s q xs) o)
  chained xs step None e = refl
  chained xs step (Some q) e = e q

  pub end_from-step : (p : PathEnd) (xs : List PathStep) (step : PathStep) → end_from hash keys s p (xs ++ step ∷ [])
      ≡ option_and_then (next_end hash keys s step) (end_from hash keys s p xs)
  end_from-step p [] step = last_step (next_end hash keys s step p)
  end_from-step p (x ∷ xs) step = chained xs step (next_end hash keys s x p) (λ q. end_from-step q xs step)

  -- ---- the term's own words for it

  -- what stands there agrees with the term, and lies at the path
  abbrev pub Agrees : List PathStep → PathEnd → Subterm → Type 0
  Agrees path (at_position here choice) (paths.position c) =
      (here.position ≡ path) × (choice ≡ c) × (here.output.script ≡ position_script hash keys s path choice)
  Agrees path (at_position here choice) (paths.at_branch b) = ⊥
  Agrees path (at_branch here i d) (paths.position c) = ⊥
  Agrees path (at_branch here i d) (paths.at_branch b) = (branch_path here.position i ≡ path) × (d ≡ b)

  abbrev pub IfAgrees : List PathStep → Option PathEnd → Option Subterm → Type 0
  IfAgrees path None None = Unit {0}
  IfAgrees path None (Some q) = ⊥
  IfAgrees path (Some p) None = ⊥
  IfAgrees path (Some p) (Some q) = Agrees path p q

  to_branch : (path : List PathStep) (here : Standing) (i : ℕ) (o : Option term.Guarded) → branch_path here.position i ≡ path
      → IfAgrees path (option_map (at_branch here i) o) (option_map paths.at_branch o)
  to_branch path here i None e = tt
  to_branch path here i (Some b) e = (e, refl)

  to_part : (path : List PathStep) (made : Unsigned) (k : ℕ) (o : Option (ℕ × Contract))
      → IfAgrees (part_position path k) (option_map (λ (p : ℕ × Contract). at_position (part_standing hash keys s path made k p.0 p.1) p.1)
      o) (option_map (λ (p : ℕ × Contract). paths.position p.1) o)
  to_part path made k None = tt
  to_part path made k (Some p) = (refl, refl, refl)

  -- one step further from a branch, by its core
  abbrev pub next_core : Standing → ℕ → term.Guarded → term.Guarded → PathStep → Option PathEnd
  next_core here i d c (To j) = option_and_then (λ (p : Standing × Contract). branch_end p.0 p.1 j) (continued_end hash keys s here i d c)
  next_core here i d c (Into k) = part_end hash keys s here i d k c

  pub is_next_core : (here : Standing) (i : ℕ) (d : term.Guarded) (step : PathStep) → next_end hash keys s step (at_branch here i d)
      ≡ next_core here i d (core d) step
  is_next_core here i d (To j) = refl
  is_next_core here i d (Into k) = refl

  from_core : (path : List PathStep) (here : Standing) (i : ℕ) (d c : term.Guarded) (step : PathStep) → branch_path here.position i ≡ path
      → IfAgrees (path ++ step ∷ []) (next_core here i d c step) (below c step)
  from_core path here i d (put_reveal puts reveals test next) (To j) e =
      to_branch (path ++ To j ∷ []) _ j (slice_get (branches next) j) (ap (λ (p : List PathStep). p ++ To j ∷ []) e)
  from_core path here i d (put_reveal puts reveals test next) (Into k) e = tt
  from_core path here i d (split parts) (To j) e = tt
  from_core path here i d (split parts) (Into k) e =
      subst (λ (p : List PathStep). IfAgrees (p ++ Into k ∷ []) (next_core here i d (split parts) (Into k)) (below (split parts) (Into k)))
      e (to_part (branch_path here.position i) (branch_unsigned hash keys s here i d) k (slice_get (parts_list parts) k))
  from_core path here i d (auth party body) (To j) e = tt
  from_core path here i d (auth party body) (Into k) e = tt
  from_core path here i d (after height body) (To j) e = tt
  from_core path here i d (after height body) (Into k) e = tt
  from_core path here i d (withdraw party) (To j) e = tt
  from_core path here i d (withdraw party) (Into k) e = tt

  agrees_next : (path : List PathStep) (p : PathEnd) (q : Subterm) (step : PathStep) → Agrees path p q
      → IfAgrees (path ++ step ∷ []) (next_end hash keys s step p) (next_subterm q step)
  agrees_next path (at_position here choice) (paths.position c) (To i) h =
      subst (λ (x : Contract). IfAgrees (path ++ To i ∷ []) (branch_end here choice i) (next_subterm (paths.position x) (To i))) h.1
      (to_branch (path ++ To i ∷ []) here i (slice_get (branches choice) i) (ap (λ (p : List PathStep). p ++ To i ∷ []) h.0))
  agrees_next path (at_position here choice) (paths.position c) (Into k) h = tt
  agrees_next path (at_position here choice) (paths.at_branch b) step h = absurd h
  agrees_next path (at_branch here i d) (paths.position c) step h = absurd h
  agrees_next path (at_branch here i d) (paths.at_branch b) step h =
      subst (λ (o : Option PathEnd). IfAgrees (path ++ step ∷ []) o (below (core b) step)) (sym (is_next_core here i d step))
      (subst (λ (x : term.Guarded). IfAgrees (path ++ step ∷ []) (next_core here i d (core d) step) (below (core x) step)) h.1
      (from_core path here i d (core d) step h.0))

  if_next : (path steps : List PathStep) (o : Option PathEnd) (u : Option Subterm) → IfAgrees path o u
      → ((p : PathEnd) (q : Subterm) → Agrees path p q → IfAgrees (path ++ steps) (end_from hash keys s p steps) (subterm_from q steps))
      → IfAgrees (path ++ steps) (option_and_then (λ (p : PathEnd). end_from hash keys s p steps) o) (option_and_then (λ (q : Subterm). subterm_from q steps) u)
  if_next path steps None None h k = tt
  if_next path steps None (Some q) h k = absurd h
  if_next path steps (Some p) None h k = absurd h
  if_next path steps (Some p) (Some q) h k = k p q h

  agrees_from : (path steps : List PathStep) (p : PathEnd) (q : Subterm) → Agrees path p q
      → IfAgrees (path ++ steps) (end_from hash keys s p steps) (subterm_from q steps)
  agrees_from path [] p q h = subst (λ (r : List PathStep). IfAgrees r (Some p) (Some q)) (sym (append-nil path)) h
  agrees_from path (step ∷ steps) p q h =
      subst (λ (r : List PathStep). IfAgrees r (end_from hash keys s p (step ∷ steps)) (subterm_from q (step ∷ steps))) (append_assoc path (step ∷ []) steps)
      (if_next (path ++ step ∷ []) steps (next_end hash keys s step p) (next_subterm q step) (agrees_next path p q step h)
      (λ x y k. agrees_from (path ++ step ∷ []) steps x y k))

  -- at the end of a path there stands what the term has there
  pub agrees_at : (path : List PathStep) → IfAgrees path (end_at hash keys s path) (subterm_from (paths.position s.advert.root) path)
  agrees_at path = agrees_from [] path (at_position (root_standing hash keys s) s.advert.root) (paths.position s.advert.root) (refl, refl, refl)

  -- ---- positions

  stands_on : (path : List PathStep) (h here : Standing) (i : ℕ) (d c : term.Guarded) (choice : Contract) → branch_path h.position i ≡ path
      → continued_end hash keys s h i d c ≡ Some (here, choice) → (here.position ≡ path) × (continuation c ≡ Some choice)
      × (here.output.script ≡ position_script hash keys s path choice)
  stands_on path h here i d (put_reveal puts reveals test next) choice e k =
      let p = some_same k in (
        ap (λ (x : Standing × Contract). x.0.position) (sym p)
            ∙ e,
        ap (λ (x : Standing × Contract). Some (x.1)) p,
        ap (λ (x : Standing × Contract). x.0.output.script) (sym p)
            ∙ ap (λ (q : List PathStep). position_script hash keys s q next) e ∙ ap (λ (x : Standing × Contract). position_script hash keys s path (x.1)) p,
      )
  stands_on path h here i d (withdraw party) choice e k = cc
  stands_on path h here i d (split parts) choice e k = cc
  stands_on path h here i d (auth party body) choice e k = cc
  stands_on path h here i d (after height body) choice e k = cc

  stands_if : (path : List PathStep) (here : Standing) (choice : Contract) (o : Option PathEnd) (u : Option Subterm) → IfAgrees path o u
      → option_and_then (as_position hash keys s) o ≡ Some (here, choice) → (here.position ≡ path)
      × (option_and_then as_contract u ≡ Some choice) × (here.output.script ≡ position_script hash keys s path choice)
  stands_if path here choice None u h e = cc
  stands_if path here choice (Some p) None h e = absurd h
  stands_if path here choice (Some (at_position x c)) (Some (paths.position y)) h e =
      let p = some_same e in (
        ap (λ (z : Standing × Contract). z.0.position) (sym p) ∙ h.0,
        ap Some (sym h.1 ∙ ap (λ (z : Standing × Contract). z.1) p),
        ap (λ (z : Standing × Contract). z.0.output.script) (sym p) ∙ h.2 ∙ ap (λ (z : Standing × Contract). position_script hash keys s path (z.1)) p,
      )
  stands_if path here choice (Some (at_position x c)) (Some (paths.at_branch b)) h e = absurd h
  stands_if path here choice (Some (at_branch x i d)) (Some (paths.position y)) h e = absurd h
  stands_if path here choice (Some (at_branch x i d)) (Some (paths.at_branch b)) h e =
      let k = stands_on path x here i d (core d) choice h.0 e in
      (k.0, subst (λ (y : term.Guarded). continuation (core y) ≡ Some choice) h.1 k.1, k.2)

  pub position_stands : (path : List PathStep) (here : Standing) (choice : Contract) → position_at hash keys s path ≡ Some (here, choice)
      → StandsAt hash keys s path here choice
  position_stands path here choice e =
      let k = stands_if path here choice (end_at hash keys s path) (subterm_from (paths.position s.advert.root) path) (agrees_at path) e in
      record { path = k.0; branches = k.1; script = k.2 }
