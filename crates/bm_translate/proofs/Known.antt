-- Of the strings that an event posts, those of secrets show all that comes to be shown, and all that is to be noted.
use Rattle.std.proofs.Common.{◌≡◌, List, [], ◌∷◌, ◌++◌, ℕ, map, Bool, true, false, not, cond, Option, Some, None, refl, sym, ap, subst, ◌∙◌, arith}
use Rattle.std.specs.Prelude.{◌&&◌, ◌||◌, ◌==◌, length, option_to_list}
use Rattle.std.specs.List.{filter}
use Rattle.std.specs.Str.{bytes_eq}
use Rattle.std.proofs.Math.Bool.{or-false}
use Rattle.std.proofs.lemmas.Bool.{both_ways, eqb-true, false_from_ne_true}
use Rattle.std.proofs.lemmas.List.Elements.{filter-append}
use Rattle.spec_data.specs.Lists.{is_among}
use Rattle.spec_calculus.specs.declared.parts.Committed.{Committed}
use Rattle.theory_calculus.proofs.Names.{bytes-true, among-append}
use Rattle.theory_world.proofs.Hashed.{among_head, among_left, among_right}
use Rattle.bm_translate.specs.declared.watching.Watched.{Watched}
use Rattle.bm_translate.specs.Shown.{is_one_of, strings_of, told_of, noted, comes_up, reveal_of, revealed_by}

-- ---- lists of no string

-- a list of some strings has a length
some_strings : (t : List ℕ) (ts : List (List ℕ)) → (length (t ∷ ts) == 0) ≡ true → ⊥
some_strings t ts h = let z = eqb-true (length (t ∷ ts)) 0 h in omega (arith, z)

-- ---- strings that are known

-- those of the strings that are known
abbrev kept : List (List ℕ) → List (List ℕ) → List (List ℕ)
kept known posts = filter (λ s. is_among s known) posts

-- a known string is among those as it is among all
among_kept : (known posts : List (List ℕ)) (t : List ℕ) → is_among t known ≡ true → is_among t (kept known posts) ≡ is_among t posts
among_kept known [] t h = refl
among_kept known (p ∷ posts) t h = by_test (is_among p known) refl (among_kept known posts t h)
  where
    by_test : (b : Bool) → is_among p known ≡ b → is_among t (kept known posts) ≡ is_among t posts
        → is_among t (cond b (p ∷ kept known posts) (kept known posts)) ≡ (bytes_eq p t || is_among t posts)
    by_test true e ih = ap (λ b. bytes_eq p t || b) ih
    by_test false e ih =
        let other : bytes_eq p t ≡ false =
        false_from_ne_true _ (λ k. both_ways _ e (subst (λ q. is_among q known ≡ true) (sym (bytes-true p t k)) h)) in
        rw other ih

-- where nothing is known
none_kept : (known posts : List (List ℕ)) → (length known == 0) ≡ true → kept known posts ≡ []
none_kept [] [] h = refl
none_kept [] (p ∷ posts) h = none_kept [] posts h
none_kept (k ∷ known) posts h = absurd (some_strings k known h)

-- no string of a secret is among those of no secret
pub told_none : (watched : List Watched) (posts : List (List ℕ)) → (length (strings_of watched) == 0) ≡ true → [] ≡ told_of watched posts
told_none watched posts h = sym (none_kept (strings_of watched) posts h)

-- of two lists, those of secrets in turn
pub told_append : (watched : List Watched) (xs ys : List (List ℕ)) → told_of watched (xs ++ ys) ≡ told_of watched xs ++ told_of watched ys
told_append watched xs ys = filter-append (λ s. is_among s (strings_of watched)) xs ys

-- a string of two lists
pub among_both : (t : List ℕ) (xs ys : List (List ℕ)) → is_among t (xs ++ ys) ≡ (is_among t xs || is_among t ys)
among_both t xs ys = among-append t xs ys

-- ---- secrets whose strings are known

-- all of these strings are known
abbrev AreKnown : List (List ℕ) → List (List ℕ) → Type 0
AreKnown known strings = (t : List ℕ) → is_among t strings ≡ true → is_among t known ≡ true

module _ (known posts : List (List ℕ)) where
  shown_kept : (o : Option (List ℕ)) → AreKnown known (option_to_list o) → is_one_of (kept known posts) o ≡ is_one_of posts o
  shown_kept None are = refl
  shown_kept (Some t) are = among_kept known posts t (are t (among_head t []))

  first_kept : (x : Watched) (xs : List Watched) → AreKnown known (strings_of (x ∷ xs))
      → is_one_of (kept known posts) x.string ≡ is_one_of posts x.string
  first_kept x xs are = shown_kept x.string (λ t h. are t (among_left t (option_to_list x.string) (strings_of xs) h))

  others_known : (x : Watched) (xs : List Watched) → AreKnown known (strings_of (x ∷ xs)) → AreKnown known (strings_of xs)
  others_known x xs are = λ t h. are t (among_right t (option_to_list x.string) (strings_of xs) h)

  revealed_kept : (committed : List Committed) (watched : List Watched) → AreKnown known (strings_of watched)
      → revealed_by committed (kept known posts) watched ≡ revealed_by committed posts watched
  revealed_kept committed [] are = refl
  revealed_kept committed (x ∷ xs) are =
      rw (first_kept x xs are) (by_test (comes_up committed posts x) (revealed_kept committed xs (others_known x xs are)))
    where
      by_test : (b : Bool) → revealed_by committed (kept known posts) xs ≡ revealed_by committed posts xs
          → map reveal_of (cond b (x ∷ filter (comes_up committed (kept known posts)) xs) (filter (comes_up committed (kept known posts)) xs))
          ≡ map reveal_of (cond b (x ∷ filter (comes_up committed posts) xs) (filter (comes_up committed posts) xs))
      by_test true ih = λ i. reveal_of x ∷ ih i
      by_test false ih = ih

  noted_kept : (watched : List Watched) → AreKnown known (strings_of watched) → map (noted (kept known posts)) watched ≡ map (noted posts) watched
  noted_kept [] are = refl
  noted_kept (x ∷ xs) are = λ i. record {
    secret = x.secret;
    string = x.string;
    posted = x.posted || first_kept x xs are i;
  } ∷ noted_kept xs (others_known x xs are) i

-- the strings of secrets reveal what all strings do
pub revealed_told : (committed : List Committed) (watched : List Watched) (posts : List (List ℕ))
    → revealed_by committed (told_of watched posts) watched ≡ revealed_by committed posts watched
revealed_told committed watched posts = revealed_kept (strings_of watched) posts committed watched (λ t h. h)

-- and as much is noted of them
pub noted_told : (watched : List Watched) (posts : List (List ℕ)) → map (noted (told_of watched posts)) watched ≡ map (noted posts) watched
noted_told watched posts = noted_kept (strings_of watched) posts watched (λ t h. h)

-- ---- where there is no string

shows_none : (o : Option (List ℕ)) → is_one_of [] o ≡ false
shows_none None = refl
shows_none (Some t) = refl

not_coming : (a c : Bool) → (not a && false && c) ≡ false
not_coming true c = refl
not_coming false c = refl

no_revealed : (committed : List Committed) (watched : List Watched) → revealed_by committed [] watched ≡ []
no_revealed committed [] = refl
no_revealed committed (x ∷ xs) = rw (shows_none x.string, not_coming x.posted) (no_revealed committed xs)

no_noted : (watched : List Watched) → watched ≡ map (noted []) watched
no_noted [] = refl
no_noted (x ∷ xs) = λ i. still i ∷ no_noted xs i
  where
    still : x ≡ noted [] x
    still =
        ap (λ b. record { secret = x.secret; string = x.string; posted = b })
        (sym (ap (λ b. x.posted || b) (shows_none x.string) ∙ or-false x.posted))

-- nothing comes to be shown
pub none_revealed : (committed : List Committed) (posts : List (List ℕ)) (watched : List Watched) → (length posts == 0) ≡ true
    → [] ≡ revealed_by committed posts watched
none_revealed committed [] watched h = sym (no_revealed committed watched)
none_revealed committed (p ∷ posts) watched h = absurd (some_strings p posts h)

-- nothing is to be noted
pub none_noted : (posts : List (List ℕ)) (watched : List Watched) → (length posts == 0) ≡ true → watched ≡ map (noted posts) watched
none_noted [] watched h = no_noted watched
none_noted (p ∷ posts) watched h = absurd (some_strings p posts h)

-- what is noted of secrets leaves their strings
pub strings_kept : (posts : List (List ℕ)) (watched : List Watched) → strings_of (map (noted posts) watched) ≡ strings_of watched
strings_kept posts [] = refl
strings_kept posts (x ∷ xs) = ap (λ rest. option_to_list x.string ++ rest) (strings_kept posts xs)
