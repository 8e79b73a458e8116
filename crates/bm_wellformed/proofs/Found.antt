-- The search finds what the definition says.
use Rattle.std.proofs.Common.{◌≡◌, ℕ, ◌+◌, ℤ, pos, List, [], ◌∷◌, ◌++◌, length, Option, Some, None, refl, ap, ◌∙◌, sym, subst}
use Rattle.std.specs.Prelude.{Result, IfOk}
use Rattle.spec_data.specs.Lists.{or_else, first_answer}
use Rattle.spec_terms.specs.Term.{Guarded, auth, after, put_reveal, withdraw, split, Contract, no_branch, branch, Parts, no_part, part}
use Rattle.spec_terms.specs.Advert.{Advert}
use Rattle.spec_terms.specs.Core.{core}
use Rattle.spec_terms.specs.Paths.{position, at_branch}
use Rattle.spec_terms.specs.Precondition.{Holding, volatile}
use Rattle.spec_terms.specs.Balance.{Funded, after_put, branches_funded, funded_under, parts_funded, root_balance}
use Rattle.spec_terms.specs.Faults.{place_if, script_exceeded}
use Rattle.spec_terms.specs.Parties.{participants}
use Rattle.spec_terms.specs.declared.path.PathStep.{PathStep}
use Rattle.spec_terms.specs.declared.path.PathStep.TheVariants.{Branch as To, Part as Into}
use Rattle.spec_terms.specs.declared.place.Place.{Place}
use Rattle.spec_terms.specs.declared.place.Place.TheVariants as places
use Rattle.bm_wellformed.specs.declared.flaw.Flaw.{Flaw}
use Rattle.bm_wellformed.specs.declared.flaw.Flaw.TheVariants.{UnknownDeposit, UnknownSecret, PrefixRepeated, PredicateSecret, SplitSum, FeeShort, Balance, Expression, Script}
use Rattle.bm_wellformed.specs.Search.{passes, core_passes, place_when, found_in_branches, found_under, found_in_parts, found_in_choice, found}

-- at a branch only its core counts
pub passes_core : (flaw : Flaw) (a : Advert) (v : ℤ) (b : Guarded) → passes flaw a v (at_branch b) ≡ core_passes flaw a v (core b)
passes_core UnknownDeposit a v b = refl
passes_core UnknownSecret a v b = refl
passes_core PrefixRepeated a v b = refl
passes_core PredicateSecret a v b = refl
passes_core SplitSum a v b = refl
passes_core FeeShort a v b = refl
passes_core Balance a v b = refl
passes_core Expression a v b = refl
passes_core (Script n) a v b = refl

or_else-assoc : (x y z : Option Place) → or_else (or_else x y) z ≡ or_else x (or_else y z)
or_else-assoc None y z = refl
or_else-assoc (Some p) y z = refl

module _ (flaw : Flaw) (a : Advert) where
  abbrev shown : Funded → Option Place
  shown = place_if (λ s. passes flaw a s.balance s.subterm)

  shown-append : (xs ys : List Funded) → first_answer shown (xs ++ ys) ≡ or_else (first_answer shown xs) (first_answer shown ys)
  shown-append [] ys = refl
  shown-append (x ∷ xs) ys = ap (or_else (shown x)) (shown-append xs ys) ∙ sym (or_else-assoc (shown x) (first_answer shown xs) (first_answer shown ys))

  abbrev ds : List (List ℕ × Holding)
  ds = volatile a.pre

  mutual
    branches_found : (q : List PathStep) (v : ℤ) (i : ℕ) (c : Contract) → first_answer shown (branches_funded ds a.fee q v i c)
        ≡ found_in_branches flaw a q v i c
    branches_found q v i no_branch = refl
    branches_found q v i (branch b bs) =
        ap (or_else (place_when (passes flaw a v (at_branch b)) (places.Branch (q ++ To i ∷ []))))
        (shown-append (funded_under ds a.fee (q ++ To i ∷ []) v b) (branches_funded ds a.fee q v (i + 1) bs)
        ∙ (λ k. or_else (under_found (q ++ To i ∷ []) v b k) (branches_found q v (i + 1) bs k)))

    under_found : (p : List PathStep) (v : ℤ) (b : Guarded) → first_answer shown (funded_under ds a.fee p v b) ≡ found_under flaw a p v b
    under_found p v (auth party body) = under_found p v body
    under_found p v (after height body) = under_found p v body
    under_found p v (put_reveal puts reveals test next) =
        ap (or_else (place_when (passes flaw a (after_put ds a.fee v puts) (position next)) (places.Position p)))
        (branches_found p (after_put ds a.fee v puts) 0 next)
    under_found p v (withdraw party) = refl
    under_found p v (split parts) = parts_found p 0 parts

    parts_found : (p : List PathStep) (k : ℕ) (ps : Parts) → first_answer shown (parts_funded ds a.fee p k ps) ≡ found_in_parts flaw a p k ps
    parts_found p k no_part = refl
    parts_found p k (part w c ps) =
        ap (or_else (place_when (passes flaw a (pos w) (position c)) (places.Position (p ++ Into k ∷ []))))
        (shown-append (branches_funded ds a.fee (p ++ Into k ∷ []) (pos w) 0 c) (parts_funded ds a.fee p (k + 1) ps)
        ∙ (λ j. or_else (branches_found (p ++ Into k ∷ []) (pos w) 0 c j) (parts_found p (k + 1) ps j)))
        ∙ sym (or_else-assoc (place_when (passes flaw a (pos w) (position c)) (places.Position (p ++ Into k ∷ [])))
        (found_in_branches flaw a (p ++ Into k ∷ []) (pos w) 0 c) (found_in_parts flaw a p (k + 1) ps))

  pub found_whole : found_in_choice flaw a [] (root_balance a) a.root ≡ found flaw a
  found_whole =
      ap (or_else (place_when (passes flaw a (root_balance a) (position a.root)) (places.Position []))) (sym (branches_found [] (root_balance a) 0 a.root))

  -- from the root on
  pub if_found : {E : Type 0} (r : Result (Option Place) E) (q : List PathStep) (v : ℤ) (c : Contract)
      → IfOk r (λ place. place ≡ found_in_choice flaw a q v c) → q ≡ [] → v ≡ root_balance a → c ≡ a.root → IfOk r (λ place. place ≡ found flaw a)
  if_found r q v c h eq ev ec = subst (λ x. IfOk r (λ place. place ≡ x)) ((λ i. found_in_choice flaw a (eq i) (ev i) (ec i)) ∙ found_whole) h

-- the participants as the search counts them
pub script_found : (a : Advert) (n : ℕ) → n ≡ length (participants a) → found (Script n) a ≡ script_exceeded a
script_found a n e = ap (λ k. found (Script k) a) e
