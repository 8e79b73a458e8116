-- Fewer messages don't collide where more don't; and messages that were noted don't when they are hashed again.
use Rattle.std.proofs.Common.{◌≡◌, ℕ, List, [], ◌∷◌, Bool, true, false, Option, Some, None, refl, sym, ap, ◌∙◌, subst, inl, inr, cond}
use Rattle.std.specs.Prelude.{◌⊎◌, ◌&&◌, not}
use Rattle.std.specs.List.{find}
use Rattle.std.specs.Option.{option_map, option_or}
use Rattle.std.specs.Str.{bytes_eq}
use Rattle.std.proofs.lemmas.Bool.{or_cases}
use Rattle.spec_data.specs.Lists.{is_among}
use Rattle.spec_data.specs.Messages.{noted, noted_all, is_twin, collision_with, collision}
use Rattle.theory_calculus.proofs.Names.{bytes-true, bytes_refl}
use Rattle.theory_calculus.proofs.Faultless.{map_none}
use Rattle.theory_world.specs.KeptApart.{NoCollision}
use Rattle.theory_world.proofs.Hashed.{among_head, among_tail, noted_more, noted_new, noted_back}

-- each of these strings is one of those
abbrev pub Within : List (List ℕ) → List (List ℕ) → Type 0
Within xs ys = (m : List ℕ) → is_among m xs ≡ true → is_among m ys ≡ true

noted_within : (xs ys : List (List ℕ)) (m : List ℕ) → Within xs ys → Within (noted xs m) (noted ys m)
noted_within xs ys m h t i = by_case (noted_back xs m t i)
  where
    by_case : (is_among t xs ≡ true) ⊎ (t ≡ m) → is_among t (noted ys m) ≡ true
    by_case (inl a) = noted_more ys m t (h t a)
    by_case (inr e) = subst (λ x. is_among x (noted ys m) ≡ true) (sym e) (noted_new ys m)

pub all_within : (xs ys ts : List (List ℕ)) → Within xs ys → Within (noted_all xs ts) (noted_all ys ts)
all_within xs ys [] h = h
all_within xs ys (t ∷ ts) h = all_within (noted xs t) (noted ys t) ts (noted_within xs ys t h)

-- ---- nothing is found

-- where nothing is found, nothing passes
none_passes : (p : List ℕ → Bool) (ms : List (List ℕ)) (u : List ℕ) → find p ms ≡ None → is_among u ms ≡ true → p u ≡ false
none_passes p [] u h k = cc
none_passes p (m ∷ ms) u h k = by_test (p m) refl h (or_cases (bytes_eq m u) (is_among u ms) k) (none_passes p ms u)
  where
    by_test : (b : Bool) → p m ≡ b → cond b (Some m) (find p ms) ≡ None → (bytes_eq m u ≡ true) ⊎ (is_among u ms ≡ true)
        → (find p ms ≡ None → is_among u ms ≡ true → p u ≡ false) → p u ≡ false
    by_test true e x c later = cc
    by_test false e x (inl q) later = subst (λ y. p y ≡ false) (bytes-true m u q) e
    by_test false e x (inr q) later = later x q

-- where nothing passes, nothing is found
none_found : (p : List ℕ → Bool) (ms : List (List ℕ)) → ((u : List ℕ) → is_among u ms ≡ true → p u ≡ false) → find p ms ≡ None
none_found p [] h = refl
none_found p (m ∷ ms) h =
    ap (λ b. cond b (Some m) (find p ms)) (h m (among_head m ms)) ∙ none_found p ms (λ u i. h u (among_tail u m ms i))

either_none : {A : Type 0} (a b : Option A) → option_or a b ≡ None → (a ≡ None) × (b ≡ None)
either_none None b h = (refl, h)
either_none (Some x) b h = cc

-- ---- nothing collides

collision_none : (hash : List ℕ → List ℕ) (ms : List (List ℕ)) (m : List ℕ) → find (is_twin hash m) ms ≡ None → collision_with hash ms m ≡ None
collision_none hash ms m h = ap (option_map (λ earlier. (earlier, m))) h

collision_kept_within : (hash : List ℕ → List ℕ) (xs ys : List (List ℕ)) (m : List ℕ) → Within xs ys → collision_with hash ys m ≡ None
    → collision_with hash xs m ≡ None
collision_kept_within hash xs ys m h c =
    let none = map_none _ (find (is_twin hash m) ys) c in
    collision_none hash xs m (none_found (is_twin hash m) xs (λ u i. none_passes (is_twin hash m) ys u none (h u i)))

pub collision_within : (hash : List ℕ → List ℕ) (xs ys ts : List (List ℕ)) → Within xs ys → collision hash ys ts ≡ None
    → collision hash xs ts ≡ None
collision_within hash xs ys [] h c = refl
collision_within hash xs ys (t ∷ ts) h c =
    let both = either_none (collision_with hash ys t) (collision hash (noted ys t) ts) c in
    ap (λ o. option_or o (collision hash (noted xs t) ts)) (collision_kept_within hash xs ys t h both.0)
    ∙ collision_within hash (noted xs t) (noted ys t) ts (noted_within xs ys t h) both.1

-- a message that is there has no twin
no_twin : (hash : List ℕ → List ℕ) (ms : List (List ℕ)) (m u : List ℕ) → NoCollision hash ms → is_among m ms ≡ true → is_among u ms ≡ true
    → is_twin hash m u ≡ false
no_twin hash ms m u n i j = by_test (bytes_eq (hash u) (hash m)) refl
  where
    by_test : (b : Bool) → bytes_eq (hash u) (hash m) ≡ b → (b && not (bytes_eq u m)) ≡ false
    by_test false e = refl
    by_test true e =
        let same : u ≡ m = n.one u m j i (bytes-true (hash u) (hash m) e) in
        ap not (ap (λ x. bytes_eq x m) same ∙ bytes_refl m)

noted_there : (ms : List (List ℕ)) (m : List ℕ) → is_among m ms ≡ true → noted ms m ≡ ms
noted_there ms m h = rw h refl

-- messages that were noted are hashed again
pub again_calm : (hash : List ℕ → List ℕ) (ms ts : List (List ℕ)) → NoCollision hash ms → Within ts ms → collision hash ms ts ≡ None
again_calm hash ms [] n h = refl
again_calm hash ms (t ∷ ts) n h =
    let here = h t (among_head t ts) in
    let none = collision_none hash ms t (none_found (is_twin hash t) ms (λ u i. no_twin hash ms t u n here i)) in
    ap (λ o. option_or o (collision hash (noted ms t) ts)) none
    ∙ (ap (λ xs. collision hash xs ts) (noted_there ms t here) ∙ again_calm hash ms ts n (λ u i. h u (among_tail u t ts i)))
