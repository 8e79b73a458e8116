-- The secrets of the run that begins a contract are held by their parties, and differ.
use Rattle.std.proofs.Common.{◌≡◌, ℕ, List, [], ◌∷◌, length, Bool, true, false, Some, refl, sym, ap, ◌∙◌, subst, arith, inl, inr}
use Rattle.std.specs.Prelude.{not, ◌&&◌, ◌||◌, is_some, if◌then◌else◌}
use Rattle.std.specs.Str.{bytes_eq}
use Rattle.std.proofs.lemmas.Bool.{and_parts, and_from, or_cases, or_left, or_right, both_ways, not-true, not_from_false, false_from_ne_true}
use Rattle.spec_data.specs.Lists.{is_among, are_different}
use Rattle.spec_terms.specs.Advert.{Advert}
use Rattle.spec_terms.specs.Faults.{IsWellFormed}
use Rattle.spec_terms.specs.Precondition.{names_of, names_of_party, secrets}
use Rattle.spec_run.specs.Setup.{held_among, bytes_or_none}
use Rattle.spec_run.specs.Committing.{is_secret_long}
use Rattle.spec_next.specs.FirstLines.{held}
use Rattle.theory_calculus.proofs.Names.{bytes-true, all_among, different_names}
use Rattle.theory_world.proofs.Hashed.{among_head, among_tail}
use Rattle.theory_run.proofs.Accepted.Tested.{secrets_different}
use Rattle.theory_next.specs.FirstRun.{first_setup, AreSecrets}
use Rattle.theory_next.specs.FirstEvents.{AreLong}
use Rattle.theory_next.proofs.FirstSecrets.{HasSecrets}

-- ---- a party's names

party_named : (a : List ℕ) (xs : List (List ℕ × List ℕ)) (n : List ℕ) → is_among n (names_of_party a xs) ≡ true
    → is_among n (names_of xs) ≡ true
party_named a [] n h = cc
party_named a (x ∷ xs) n h = by_test (bytes_eq x.1 a) h (party_named a xs n)
  where
    by_test : (b : Bool) → is_among n (if b then (x.0 ∷ names_of_party a xs) else names_of_party a xs) ≡ true
        → (is_among n (names_of_party a xs) ≡ true → is_among n (names_of xs) ≡ true) → is_among n (names_of (x ∷ xs)) ≡ true
    by_test true q ih = elim (or_cases (bytes_eq x.0 n) (is_among n (names_of_party a xs)) q) [
      | inl u ↦ or_left _ _ u
      | inr v ↦ or_right _ _ (ih v)
    ]
    by_test false q ih = or_right (bytes_eq x.0 n) _ (ih q)

party_different : (a : List ℕ) (xs : List (List ℕ × List ℕ)) → are_different (names_of xs) ≡ true
    → are_different (names_of_party a xs) ≡ true
party_different a [] h = refl
party_different a (x ∷ xs) h = by_test (bytes_eq x.1 a) (party_different a xs p.1)
  where
    p : (not (is_among x.0 (names_of xs)) ≡ true) × (are_different (names_of xs) ≡ true)
    p = and_parts (not (is_among x.0 (names_of xs))) (are_different (names_of xs)) h

    by_test : (b : Bool) → are_different (names_of_party a xs) ≡ true
        → are_different (if b then (x.0 ∷ names_of_party a xs) else names_of_party a xs) ≡ true
    by_test true ih =
        let fresh = false_from_ne_true (is_among x.0 (names_of_party a xs)) (λ t. both_ways _ (not-true _ p.0) (party_named a xs x.0 t)) in
        and_from _ _ (not_from_false _ fresh) ih
    by_test false ih = ih

-- ---- what is held

-- the party holds one of the strings under this name
record IsHeld (p n : List ℕ) (xs : List (List ℕ × List ℕ)) (strings : List (List ℕ)) : Type 0 where
  bytes : List ℕ
  found : held_among p n (held xs strings) ≡ Some bytes
  there : is_among bytes strings ≡ true

is_held : (p n : List ℕ) (xs : List (List ℕ × List ℕ)) (strings : List (List ℕ)) → length strings ≡ length xs
    → is_among n (names_of_party p xs) ≡ true → IsHeld p n xs strings
is_held p n [] strings e h = cc
is_held p n (x ∷ xs) [] e h = absurd (omega (arith, e))
is_held p n (x ∷ xs) (b ∷ bs) e h = by_party (bytes_eq x.1 p) refl h (λ k. is_held p n xs bs (omega (arith, e)) k)
  where
    later : IsHeld p n xs bs → held_among p n (held (x ∷ xs) (b ∷ bs)) ≡ held_among p n (held xs bs) → IsHeld p n (x ∷ xs) (b ∷ bs)
    later k q = record { bytes = k.bytes; found = q ∙ k.found; there = among_tail k.bytes b bs k.there }

    by_name : (u : Bool) → bytes_eq x.1 p ≡ true → bytes_eq x.0 n ≡ u → (u || is_among n (names_of_party p xs)) ≡ true
        → (is_among n (names_of_party p xs) ≡ true → IsHeld p n xs bs) → IsHeld p n (x ∷ xs) (b ∷ bs)
    by_name true q r k ih = record { bytes = b; found = rw (q, r) refl; there = among_head b bs }
    by_name false q r k ih = later (ih k) (rw (q, r) refl)

    by_party : (t : Bool) → bytes_eq x.1 p ≡ t → is_among n (if t then x.0 ∷ names_of_party p xs else names_of_party p xs) ≡ true
        → (is_among n (names_of_party p xs) ≡ true → IsHeld p n xs bs) → IsHeld p n (x ∷ xs) (b ∷ bs)
    by_party true q k ih = by_name (bytes_eq x.0 n) q refl k ih
    by_party false q k ih = later (ih k) (rw q refl)

held_in : (p n t : List ℕ) (xs : List (List ℕ × List ℕ)) (strings : List (List ℕ)) → held_among p n (held xs strings) ≡ Some t
    → is_among t strings ≡ true
held_in p n t [] strings h = cc
held_in p n t (x ∷ xs) [] h = cc
held_in p n t (x ∷ xs) (b ∷ bs) h = by_test (bytes_eq x.1 p && bytes_eq x.0 n) h (held_in p n t xs bs)
  where
    by_test : (u : Bool) → (if u then Some b else held_among p n (held xs bs)) ≡ Some t
        → (held_among p n (held xs bs) ≡ Some t → is_among t bs ≡ true) → is_among t (b ∷ bs) ≡ true
    by_test true q ih = let z : b ≡ t = cc in subst (λ y. is_among y (b ∷ bs) ≡ true) z (among_head b bs)
    by_test false q ih = among_tail t b bs (ih q)

-- strings that differ are each held under one name by one party
one_holder : (p n q m t : List ℕ) (xs : List (List ℕ × List ℕ)) (strings : List (List ℕ)) → are_different strings ≡ true
    → held_among p n (held xs strings) ≡ Some t → held_among q m (held xs strings) ≡ Some t → (p ≡ q) × (n ≡ m)
one_holder p n q m t [] strings apart h k = cc
one_holder p n q m t (x ∷ xs) [] apart h k = cc
one_holder p n q m t (x ∷ xs) (b ∷ bs) apart h k =
    by_tests (bytes_eq x.1 p && bytes_eq x.0 n) (bytes_eq x.1 q && bytes_eq x.0 m) refl refl h k
    (one_holder p n q m t xs bs (and_parts (not (is_among b bs)) (are_different bs) apart).1)
  where
    first : (not (is_among b bs) ≡ true) × (are_different bs ≡ true)
    first = and_parts (not (is_among b bs)) (are_different bs) apart

    -- a string that is held later isn't this one
    no_other : (a c : List ℕ) → b ≡ t → held_among a c (held xs bs) ≡ Some t → ⊥
    no_other a c e l = both_ways _ (not-true _ first.0) (subst (λ y. is_among y bs ≡ true) (sym e) (held_in a c t xs bs l))

    by_tests : (u v : Bool) → (bytes_eq x.1 p && bytes_eq x.0 n) ≡ u → (bytes_eq x.1 q && bytes_eq x.0 m) ≡ v
        → (if u then Some b else held_among p n (held xs bs)) ≡ Some t → (if v then Some b else held_among q m (held xs bs)) ≡ Some t
        → (held_among p n (held xs bs) ≡ Some t → held_among q m (held xs bs) ≡ Some t → (p ≡ q) × (n ≡ m)) → (p ≡ q) × (n ≡ m)
    by_tests true true e f i j ih =
        let a = and_parts (bytes_eq x.1 p) (bytes_eq x.0 n) e in
        let c = and_parts (bytes_eq x.1 q) (bytes_eq x.0 m) f in
        (sym (bytes-true x.1 p a.0) ∙ bytes-true x.1 q c.0, sym (bytes-true x.0 n a.1) ∙ bytes-true x.0 m c.1)
    by_tests true false e f i j ih = let z : b ≡ t = cc in absurd (no_other q m z j)
    by_tests false true e f i j ih = let z : b ≡ t = cc in absurd (no_other p n z i)
    by_tests false false e f i j ih = ih i j

-- ---- the run's secrets

module _ (hash : List ℕ → List ℕ) (advert : Advert) (strings : List (List ℕ)) (well : IsWellFormed advert)
    (are : AreSecrets advert strings) (long : AreLong strings) where
  abbrev xs : List (List ℕ × List ℕ)
  xs = secrets advert.pre

  holds : (p n : List ℕ) → is_among n (names_of_party p xs) ≡ true → IsHeld p n xs strings
  holds p n h = is_held p n xs strings are.each h

  pub has_secrets : HasSecrets (first_setup hash advert strings)
  has_secrets = record {
    held = λ p n h. ap is_some (holds p n h).found;
    long = λ p n h.
        let k = holds p n h in
        ap (λ o. is_secret_long (bytes_or_none o)) k.found ∙ all_among is_secret_long strings k.bytes long k.there;
    named = λ p. party_different p xs (secrets_different advert.pre (different_names advert well));
    one = λ p n q m h k same.
        let i = holds p n h in
        let j = holds q m k in
        let e : i.bytes ≡ j.bytes = sym (ap bytes_or_none i.found) ∙ same ∙ ap bytes_or_none j.found in
        one_holder p n q m j.bytes xs strings are.different (i.found ∙ ap Some e) j.found;
  }
