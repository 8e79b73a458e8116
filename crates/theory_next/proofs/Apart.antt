-- Lists in which nothing stands twice.
use Rattle.std.proofs.Common.{◌≡◌, ℕ, List, [], ◌∷◌, ◌++◌, map, Bool, true, false, refl, sym, ap, ◌∙◌, subst, inl, inr, ◌⊎◌}
use Rattle.std.specs.Prelude.{not, if◌then◌else◌}
use Rattle.std.specs.List.{filter}
use Rattle.std.proofs.lemmas.Bool.{and_parts, or_left, or_right}
use Rattle.std.specs.Str.{bytes_eq}
use Rattle.spec_data.specs.Lists.{is_among, are_different}
use Rattle.spec_terms.specs.Parties.{add_new, add_all}
use Rattle.theory_calculus.specs.Members.{Is_in}
use Rattle.theory_calculus.proofs.Members.{in_append, in_filter}
use Rattle.theory_calculus.proofs.Names.{bytes_refl}
use Rattle.theory_next.proofs.Exact.{from_map}

abbrev pub Apart : {A : Type 0} → List A → Type 0
Apart [] = Unit {0}
Apart (x ∷ xs) = (Is_in x xs → ⊥) × Apart xs

pub apart_append : {A : Type 0} (xs ys : List A) → Apart xs → Apart ys → ((x : A) → Is_in x xs → Is_in x ys → ⊥) → Apart (xs ++ ys)
apart_append [] ys h k never = k
apart_append (x ∷ xs) ys h k never = (
  λ i. elim (in_append x xs ys i) [ inl a ↦ h.0 a | inr b ↦ never x (inl refl) b ],
  apart_append xs ys h.1 k (λ y a b. never y (inr a) b),
)

pub apart_filter : {A : Type 0} (p : A → Bool) (xs : List A) → Apart xs → Apart (filter p xs)
apart_filter p [] h = tt
apart_filter p (x ∷ xs) h = by_test (p x) (apart_filter p xs h.1)
  where
    by_test : (b : Bool) → Apart (filter p xs) → Apart (if b then x ∷ filter p xs else filter p xs)
    by_test true k = (λ i. h.0 (in_filter p xs x i).0, k)
    by_test false k = k

-- with something that leads back
pub apart_map : {A B : Type 0} (f : A → B) (back : B → A) → ((x : A) → back (f x) ≡ x) → (xs : List A) → Apart xs → Apart (map f xs)
apart_map f back e [] h = tt
apart_map f back e (x ∷ xs) h = (
  λ i. let m = from_map f xs (f x) i in h.0 (subst (λ z. Is_in z xs) (sym (ap back m.2 ∙ e m.0) ∙ e x) m.1),
  apart_map f back e xs h.1,
)

-- ---- names

pub among_in : (p : List ℕ) (ps : List (List ℕ)) → Is_in p ps → is_among p ps ≡ true
among_in p [] h = absurd h
among_in p (q ∷ ps) (inl e) = or_left _ _ (subst (λ y. bytes_eq y p ≡ true) e (bytes_refl p))
among_in p (q ∷ ps) (inr i) = or_right (bytes_eq q p) _ (among_in p ps i)

pub apart_names : (xs : List (List ℕ)) → are_different xs ≡ true → Apart xs
apart_names [] h = tt
apart_names (x ∷ xs) h =
    let p = and_parts (not (is_among x xs)) (are_different xs) h in
    (λ i. let e = among_in x xs i in cc, apart_names xs p.1)

-- names that are added where they are new stand once
in_one_more : {A : Type 0} (xs : List A) (x y : A) → Is_in y (xs ++ x ∷ []) → Is_in y xs ⊎ (y ≡ x)
in_one_more xs x y i = elim (in_append y xs (x ∷ []) i) [ inl a ↦ inl a | inr (inl e) ↦ inr e | inr (inr e) ↦ absurd e ]

pub apart_added : (names new : List (List ℕ)) → Apart names → Apart (add_all names new)
apart_added names [] h = h
apart_added names (x ∷ new) h = apart_added (add_new names x) new (by_test (is_among x names) refl)
  where
    by_test : (b : Bool) → is_among x names ≡ b → Apart (if b then names else (names ++ x ∷ []))
    by_test true e = h
    by_test false e =
        apart_append names (x ∷ []) h ((λ i. absurd i), tt)
        (λ y a b. elim b [
          | inl q ↦ let k : is_among x names ≡ true = subst (λ z. is_among z names ≡ true) q
              (among_in y names a) in cc
          | inr q ↦ absurd q
        ])
