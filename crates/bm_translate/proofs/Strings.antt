-- The message that stands for a digest is the one posted string that fits it.
use Rattle.std.proofs.Common.{◌≡◌, ℕ, List, [], ◌∷◌, ◌++◌, Bool, true, false, cond, Option, Some, None, refl, sym, ◌∙◌, subst}
use Rattle.std.specs.Prelude.{◌&&◌, ◌||◌, is_some, if◌then◌else◌}
use Rattle.std.specs.List.{find, list_any}
use Rattle.std.specs.Option.{option_and_then, option_map}
use Rattle.std.specs.Str.{bytes_eq}
use Rattle.std.proofs.lemmas.Bool.{and_parts, and_from, both_ways, false_from_ne_true}
use Rattle.spec_data.specs.Lists.{is_among}
use Rattle.spec_run.specs.Setup.{Setup}
use Rattle.spec_run.specs.Committing.{is_secret_long}
use Rattle.spec_run.specs.Revealing.{fits, fitting}
use Rattle.spec_run.specs.Secrets.{is_shown, secret_size}
use Rattle.theory_calculus.proofs.Names.{bytes-true, bytes_refl, among-append}
use Rattle.theory_world.proofs.Hashed.{among_head, among_tail, find_none}
use Rattle.bm_hash.specs.Messages.{message_of}
use Rattle.bm_translate.specs.Shown.{if_long, message_if_long, is_one_of}
use Rattle.bm_translate.specs.Lengths.{posted_size, told_length}
use Rattle.bm_translate.specs.Moments.{AreHeard}

-- what is found passes the test, and is there
found_passes : (p : List ℕ → Bool) (xs : List (List ℕ)) (t : List ℕ) → find p xs ≡ Some t → (p t ≡ true) × (is_among t xs ≡ true)
found_passes p [] t h = cc
found_passes p (x ∷ xs) t h = by_test (p x) refl h (found_passes p xs t)
  where
    by_test : (b : Bool) → p x ≡ b → cond b (Some x) (find p xs) ≡ Some t → (find p xs ≡ Some t → (p t ≡ true) × (is_among t xs ≡ true))
        → (p t ≡ true) × (is_among t (x ∷ xs) ≡ true)
    by_test true e k ih = let z : x ≡ t = cc in (subst (λ y. p y ≡ true) z e, subst (λ y. is_among y (x ∷ xs) ≡ true) z (among_head x xs))
    by_test false e k ih = let r = ih k in (r.0, among_tail t x xs r.1)

-- two tests that agree on a list
any_same : (p q : List ℕ → Bool) (xs : List (List ℕ)) → ((t : List ℕ) → is_among t xs ≡ true → p t ≡ q t) → list_any p xs ≡ list_any q xs
any_same p q [] h = refl
any_same p q (x ∷ xs) h = λ i. h x (among_head x xs) i || any_same p q xs (λ t k. h t (among_tail t x xs k)) i

some_found : (p : List ℕ → Bool) (xs : List (List ℕ)) → is_some (find p xs) ≡ list_any p xs
some_found p [] = refl
some_found p (x ∷ xs) = by_test (p x) (some_found p xs)
  where
    by_test : (b : Bool) → is_some (find p xs) ≡ list_any p xs → is_some (cond b (Some x) (find p xs)) ≡ (b || list_any p xs)
    by_test true ih = refl
    by_test false ih = ih

-- nothing passes
any_none : (p : List ℕ → Bool) (xs : List (List ℕ)) → ((t : List ℕ) → is_among t xs ≡ true → p t ≡ false) → list_any p xs ≡ false
any_none p [] h = refl
any_none p (x ∷ xs) h = λ i. h x (among_head x xs) i || any_none p xs (λ t k. h t (among_tail t x xs k)) i

module _ (s : Setup) (messages posted : List (List ℕ)) (heard : AreHeard s.hash messages posted) (d : List ℕ) where
  -- a posted string that fits the digest is its message
  fits_message : (t : List ℕ) → is_among t posted ≡ true → fits s d t ≡ true → message_of s.hash messages d ≡ Some t
  fits_message t h f =
      let p = and_parts (is_secret_long t) (bytes_eq (s.hash t) d) f in
      subst (λ e. message_of s.hash messages e ≡ Some t) (bytes-true (s.hash t) d p.1) (heard t h)

  -- and the message has the digest
  message_digest : (m : List ℕ) → message_of s.hash messages d ≡ Some m → bytes_eq (s.hash m) d ≡ true
  message_digest m h = (found_passes (λ u. bytes_eq (s.hash u) d) messages m h).0

  module _ (m : List ℕ) (is : message_of s.hash messages d ≡ Some m) where
    -- of posted strings it alone fits, if it has the size of a secret
    fits_is : (t : List ℕ) → is_among t posted ≡ true → fits s d t ≡ (is_secret_long m && bytes_eq t m)
    fits_is t h = by_test (fits s d t) refl
      where
        by_test : (b : Bool) → fits s d t ≡ b → b ≡ (is_secret_long m && bytes_eq t m)
        by_test true e =
            let z : m ≡ t = (let q = fits_message t h e in let r = sym is ∙ q in cc) in
            let p = and_parts (is_secret_long t) (bytes_eq (s.hash t) d) e in
            sym (and_from _ _ (subst (λ u. is_secret_long u ≡ true) (sym z) p.0) (subst (λ u. bytes_eq t u ≡ true) (sym z) (bytes_refl t)))
        by_test false e = sym (false_from_ne_true _ (λ k.
            let p = and_parts (is_secret_long m) (bytes_eq t m) k in
            let z = bytes-true t m p.1 in
            both_ways _ e (subst (λ u. fits s d u ≡ true) (sym z) (and_from _ _ p.0 (message_digest m is)))))

  not_fitting : message_of s.hash messages d ≡ None → (t : List ℕ) → is_among t posted ≡ true → fits s d t ≡ false
  not_fitting is t h = false_from_ne_true _ (λ e. let q = sym is ∙ fits_message t h e in cc)

  -- whether strings of the run show the secret is whether its message is among them
  pub shown_by : (strings : List (List ℕ)) → ((t : List ℕ) → is_among t strings ≡ true → is_among t posted ≡ true)
      → is_shown s strings (Some d) ≡ is_one_of strings (message_if_long s.hash messages d)
  shown_by strings within = some_found (fits s d) strings ∙ by_message (message_of s.hash messages d) refl
    where
      long : (m : List ℕ) (b : Bool) → is_secret_long m ≡ b
          → list_any (λ t. b && bytes_eq t m) strings ≡ is_one_of strings (if b then Some m else None)
      long m true e = refl
      long m false e = any_none _ strings (λ t h. refl)

      by_message : (o : Option (List ℕ)) → message_of s.hash messages d ≡ o
          → list_any (fits s d) strings ≡ is_one_of strings (option_and_then if_long o)
      by_message None e = any_none (fits s d) strings (λ t h. not_fitting e t (within t h))
      by_message (Some m) e =
          any_same (fits s d) (λ t. is_secret_long m && bytes_eq t m) strings (λ t h. fits_is m e t (within t h)) ∙ long m (is_secret_long m) refl

  -- the length of the first string that fits is that of the message, if it is posted
  pub length_is : told_length s.hash messages posted d ≡ option_map secret_size (fitting s posted d)
  length_is = by_found (fitting s posted d) refl
    where
      sized : (m : List ℕ) (a b : Bool) → is_among m posted ≡ a → is_secret_long m ≡ b → (a && b) ≡ false
          → (if a then (if b then Some (secret_size m) else None) else None) ≡ None
      sized m true true e f h = cc
      sized m true false e f h = refl
      sized m false b e f h = refl

      by_found : (o : Option (List ℕ)) → fitting s posted d ≡ o → told_length s.hash messages posted d ≡ option_map secret_size o
      by_found (Some t) e =
          let r = found_passes (fits s d) posted t e in
          let p = and_parts (is_secret_long t) (bytes_eq (s.hash t) d) r.0 in
          rw (fits_message t r.1 r.0, r.1, p.0) refl
      by_found None e = by_message (message_of s.hash messages d) refl
        where
          by_message : (m : Option (List ℕ)) → message_of s.hash messages d ≡ m → option_and_then (posted_size posted) m ≡ None
          by_message None f = refl
          by_message (Some m) f = sized m (is_among m posted) (is_secret_long m) refl refl (false_from_ne_true _ (λ k.
              let p = and_parts (is_among m posted) (is_secret_long m) k in
              let x : fits s d m ≡ true = and_from _ _ p.1 (message_digest m f) in
              both_ways _ (find_none (fits s d) posted m e p.0) x))

-- what is one of two lists' strings
pub one_of-append : (xs ys : List (List ℕ)) (o : Option (List ℕ)) → is_one_of (xs ++ ys) o ≡ (is_one_of xs o || is_one_of ys o)
one_of-append xs ys None = refl
one_of-append xs ys (Some t) = among-append t xs ys
