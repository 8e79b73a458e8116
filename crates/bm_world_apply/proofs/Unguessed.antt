-- Where no string is a secret, or none an untold one, none is guessed.
use Rattle.std.proofs.Common.{◌≡◌, ℕ, List, [], ◌∷◌, Bool, true, false, ◌||◌, Option, None, refl, sym, subst, inl, inr}
use Rattle.std.specs.Prelude.{◌⊎◌, not, ◌&&◌}
use Rattle.std.specs.List.{find, list_any}
use Rattle.std.specs.Str.{bytes_eq}
use Rattle.std.proofs.lemmas.Bool.{or_cases}
use Rattle.spec_data.specs.Lists.{is_among}
use Rattle.spec_run.specs.declared.header.HeldSecret.{HeldSecret}
use Rattle.spec_run.specs.Pending.{is_allowed, is_guessed}
use Rattle.theory_calculus.proofs.Names.{bytes-true}
use Rattle.theory_world.proofs.Hashed.{among_head, among_tail}
use Rattle.bm_world_board.specs.Secrets.{secret_strings}
use Rattle.bm_world_apply.specs.Guessing.{is_untold}

-- where no string passes a test, none that is among them does
none_passes : (p : List ℕ → Bool) (xs : List (List ℕ)) (x : List ℕ) → list_any p xs ≡ false → is_among x xs ≡ true → p x ≡ false
none_passes p [] x h k = cc
none_passes p (y ∷ ys) x h k = by_test (p y) refl h (or_cases (bytes_eq y x) (is_among x ys) k) (none_passes p ys x)
  where
    by_test : (b : Bool) → p y ≡ b → (b || list_any p ys) ≡ false → (bytes_eq y x ≡ true) ⊎ (is_among x ys ≡ true)
        → (list_any p ys ≡ false → is_among x ys ≡ true → p x ≡ false) → p x ≡ false
    by_test true e n c ih = cc
    by_test false e n (inl q) ih = subst (λ z. p z ≡ false) (bytes-true y x q) e
    by_test false e n (inr q) ih = ih n q

module _ (known posted posts : List (List ℕ)) (allowed : Option (List ℕ × List ℕ)) (none : list_any (is_untold known posted) posts ≡ false) where
  unguessed : (held : HeldSecret) → is_among held.bytes known ≡ true → is_guessed posted posts allowed held ≡ false
  unguessed held there = by_posts (is_among held.bytes posts) refl
    where
      by_posts : (b : Bool) → is_among held.bytes posts ≡ b → (b && not (is_among held.bytes posted) && not (is_allowed allowed held)) ≡ false
      by_posts false e = refl
      by_posts true e =
          let told : (is_among held.bytes known && not (is_among held.bytes posted)) ≡ false = none_passes (is_untold known posted) posts held.bytes none e in
          let old : not (is_among held.bytes posted) ≡ false = rw there at told in
          rw old refl

  none_within : (secrets : List HeldSecret) → ((t : List ℕ) → is_among t (secret_strings secrets) ≡ true → is_among t known ≡ true)
      → find (is_guessed posted posts allowed) secrets ≡ None
  none_within [] within = refl
  none_within (held ∷ secrets) within =
      let first : is_guessed posted posts allowed held ≡ false = unguessed held (within held.bytes (among_head held.bytes (secret_strings secrets))) in
      rw first (none_within secrets (λ t i. within t (among_tail t held.bytes (secret_strings secrets) i)))

  pub none_guessed : (secrets : List HeldSecret) → known ≡ secret_strings secrets → find (is_guessed posted posts allowed) secrets ≡ None
  none_guessed secrets same = none_within secrets (λ t i. subst (λ l. is_among t l ≡ true) (sym same) i)

-- a string that is no secret is no untold one
untold_known : (known posted posts : List (List ℕ)) → list_any (λ post. is_among post known) posts ≡ false
    → list_any (is_untold known posted) posts ≡ false
untold_known known posted [] h = refl
untold_known known posted (post ∷ posts) h = by_test (is_among post known) h (untold_known known posted posts)
  where
    by_test : (b : Bool) → (b || list_any (λ post. is_among post known) posts) ≡ false
        → (list_any (λ post. is_among post known) posts ≡ false → list_any (is_untold known posted) posts ≡ false)
        → ((b && not (is_among post posted)) || list_any (is_untold known posted) posts) ≡ false
    by_test true n ih = cc
    by_test false n ih = ih n

pub none_known : (known posted posts : List (List ℕ)) (allowed : Option (List ℕ × List ℕ)) → list_any (λ post. is_among post known) posts ≡ false
    → (secrets : List HeldSecret) → known ≡ secret_strings secrets → find (is_guessed posted posts allowed) secrets ≡ None
none_known known posted posts allowed none = none_guessed known posted posts allowed (untold_known known posted posts none)
