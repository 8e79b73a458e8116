-- The parties of a list, each once, one after the other.
use Rattle.std.proofs.Common.{◌≡◌, ℕ, List, [], ◌∷◌, ◌++◌, Bool, true, false, cond, refl, sym, ap, ◌∙◌, append_assoc}
use Rattle.std.specs.Prelude.{filter, not, ◌&&◌, ◌||◌}
use Rattle.std.specs.Str.{bytes_eq}
use Rattle.std.specs.Cmp.Lexicographic.{nat_list_eq_equiv}
use Rattle.std.proofs.lemmas.List.{append-nil}
use Rattle.std.proofs.lemmas.List.Folds.{list_any-append}
use Rattle.spec_data.specs.Lists.{is_among}
use Rattle.spec_calculus.specs.declared.step.Owner.{Owner}
use Rattle.spec_calculus.specs.declared.step.Owner.TheVariants.{Party, Outside}
use Rattle.spec_run.specs.Steps.{parties_once}
use Rattle.bm_translate.specs.Moving.{with_owner, with_owners}
use Rattle.theory_calculus.proofs.Names.{bytes-true}

-- ---- filters

pub filter-same : (f g : List ℕ → Bool) (xs : List (List ℕ)) → ((x : List ℕ) → f x ≡ g x) → filter f xs ≡ filter g xs
filter-same f g [] h = refl
filter-same f g (x ∷ xs) h = rw (h x, filter-same f g xs h) refl

filter-twice : (f g : List ℕ → Bool) (xs : List (List ℕ)) → filter f (filter g xs) ≡ filter (λ x. g x && f x) xs
filter-twice f g [] = refl
filter-twice f g (x ∷ xs) = by_test (g x) (filter-twice f g xs)
  where
    by_test : (b : Bool) → filter f (filter g xs) ≡ filter (λ y. g y && f y) xs
        → filter f (cond b (x ∷ filter g xs) (filter g xs))
        ≡ cond (b && f x) (x ∷ filter (λ y. g y && f y) xs) (filter (λ y. g y && f y) xs)
    by_test true e = ap (λ ys. cond (f x) (x ∷ ys) ys) e
    by_test false e = e

-- ---- the parties that aren't among those so far

-- the parties so far, and those of the rest that are new
abbrev and_new : List (List ℕ) → List Owner → List (List ℕ)
and_new names owners = names ++ filter (λ x. not (is_among x names)) (parties_once owners)

new_none : (owners : List Owner) → and_new [] owners ≡ parties_once owners
new_none owners = all_kept (parties_once owners)
  where
    all_kept : (xs : List (List ℕ)) → filter (λ x. not (is_among x [])) xs ≡ xs
    all_kept [] = refl
    all_kept (x ∷ xs) = ap (λ ys. x ∷ ys) (all_kept xs)

-- a party that is there
new_known : (names : List (List ℕ)) (party : List ℕ) (owners : List Owner) → is_among party names ≡ true
    → and_new names (Party party ∷ owners) ≡ and_new names owners
new_known names party owners h = rw h (ap (λ xs. names ++ xs)
    (filter-twice (λ x. not (is_among x names)) (λ x. not (bytes_eq x party)) (parties_once owners)
    ∙ filter-same _ _ (parties_once owners) (λ x. by_test x (bytes_eq x party) refl)))
  where
    by_test : (x : List ℕ) (b : Bool) → bytes_eq x party ≡ b → (not b && not (is_among x names)) ≡ not (is_among x names)
    by_test x true e = sym (ap (λ y. not (is_among y names)) (bytes-true x party e) ∙ ap not h)
    by_test x false e = refl

-- a party that is new
new_party : (names : List (List ℕ)) (party : List ℕ) (owners : List Owner) → is_among party names ≡ false
    → and_new names (Party party ∷ owners) ≡ and_new (names ++ party ∷ []) owners
new_party names party owners h =
    rw (h, append_assoc) (ap (λ xs. names ++ (party ∷ xs))
    (filter-twice (λ x. not (is_among x names)) (λ x. not (bytes_eq x party)) (parties_once owners)
    ∙ filter-same _ _ (parties_once owners) by_list))
  where
    by_tests : (a b : Bool) → (not a && not b) ≡ not (b || (a || false))
    by_tests true true = refl
    by_tests true false = refl
    by_tests false true = refl
    by_tests false false = refl

    by_list : (x : List ℕ) → (not (bytes_eq x party) && not (is_among x names)) ≡ not (is_among x (names ++ party ∷ []))
    by_list x =
        by_tests (bytes_eq x party) (is_among x names)
        ∙ ap (λ b. not (is_among x names || (b || false))) (nat_list_eq_equiv.symm x party)
        ∙ sym (ap not (list_any-append (λ t. bytes_eq t x) names (party ∷ [])))

-- the next owner
new_owner : (names : List (List ℕ)) (owner : Owner) (owners : List Owner)
    → and_new names (owner ∷ owners) ≡ and_new (with_owner names owner) owners
new_owner names Outside owners = refl
new_owner names (Party party) owners = by_test (is_among party names) refl
  where
    by_test : (b : Bool) → is_among party names ≡ b
        → and_new names (Party party ∷ owners) ≡ and_new (cond b names (names ++ party ∷ [])) owners
    by_test true e = new_known names party owners e
    by_test false e = new_party names party owners e

added_new : (names : List (List ℕ)) (owners : List Owner) → with_owners names owners ≡ and_new names owners
added_new names [] = sym (append-nil names)
added_new names (owner ∷ owners) = added_new (with_owner names owner) owners ∙ sym (new_owner names owner owners)

-- the parties that are added one by one are those of the list, each once
pub added_once : (owners : List Owner) → with_owners [] owners ≡ parties_once owners
added_once owners = added_new [] owners ∙ new_none owners
