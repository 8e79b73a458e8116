-- The messages of a run: what is among them, and that no two of them have one digest.
use Rattle.std.proofs.Common.{◌≡◌, ℕ, List, [], ◌∷◌, ◌++◌, Bool, true, false, Option, Some, None, refl, sym, ap, ◌∙◌, subst, arith, inl, inr, cond}
use Rattle.std.specs.Prelude.{◌⊎◌, if◌then◌else◌, is_some}
use Rattle.std.specs.List.{find, list_any}
use Rattle.std.specs.Option.{option_or}
use Rattle.std.specs.Str.{bytes_eq}
use Rattle.std.proofs.lemmas.Bool.{or_left, or_right, or_cases}
use Rattle.spec_data.specs.Lists.{is_among}
use Rattle.spec_data.specs.Messages.{noted, noted_all, is_twin, collision_with, collision}
use Rattle.theory_calculus.proofs.Names.{bytes-true, bytes_refl, among-append}
use Rattle.theory_calculus.proofs.Faultless.{map_none}
use Rattle.theory_world.specs.KeptApart.{NoCollision}

-- ---- byte strings in lists

pub among_head : (t : List ℕ) (us : List (List ℕ)) → is_among t (t ∷ us) ≡ true
among_head t us = or_left _ _ (bytes_refl t)

pub among_tail : (u x : List ℕ) (us : List (List ℕ)) → is_among u us ≡ true → is_among u (x ∷ us) ≡ true
among_tail u x us h = or_right (bytes_eq x u) _ h

pub among_left : (t : List ℕ) (xs ys : List (List ℕ)) → is_among t xs ≡ true → is_among t (xs ++ ys) ≡ true
among_left t xs ys h = among-append t xs ys ∙ or_left _ _ h

pub among_right : (t : List ℕ) (xs ys : List (List ℕ)) → is_among t ys ≡ true → is_among t (xs ++ ys) ≡ true
among_right t xs ys h = among-append t xs ys ∙ or_right (is_among t xs) _ h

pub among_split : (t : List ℕ) (xs ys : List (List ℕ)) → is_among t (xs ++ ys) ≡ true → (is_among t xs ≡ true) ⊎ (is_among t ys ≡ true)
among_split t xs ys h = or_cases _ _ (sym (among-append t xs ys) ∙ h)

pub among_one : (t u : List ℕ) → is_among t (u ∷ []) ≡ true → t ≡ u
among_one t u h = elim (or_cases (bytes_eq u t) false h) [ inl q ↦ sym (bytes-true u t q) | inr q ↦ cc ]

-- what holds of some string of the list that passes one test passes another
pub any_then : (p q : List ℕ → Bool) (xs : List (List ℕ)) → ((u : List ℕ) → is_among u xs ≡ true → p u ≡ true → q u ≡ true) → list_any p xs
    ≡ true → list_any q xs ≡ true
any_then p q [] h k = k
any_then p q (x ∷ xs) h k =
    elim (or_cases (p x) (list_any p xs) k) [
      | inl a ↦ or_left _ _ (h x (among_head x xs) a)
      | inr b ↦ or_right (q x) _ (any_then p q xs (λ u i. h u (among_tail u x xs i)) b)
    ]

pub find_any : {X : Type 0} (p : X → Bool) (xs : List X) → list_any p xs ≡ true → is_some (find p xs) ≡ true
find_any p [] h = cc
find_any p (x ∷ xs) h = grind (arith, find_any p xs)

pub any_found : {X : Type 0} (p : X → Bool) (xs : List X) → is_some (find p xs) ≡ true → list_any p xs ≡ true
any_found p [] h = cc
any_found p (x ∷ xs) h = grind (arith, any_found p xs)

-- ---- messages that are noted

pub noted_more : (ms : List (List ℕ)) (m t : List ℕ) → is_among t ms ≡ true → is_among t (noted ms m) ≡ true
noted_more ms m t h = by_test (is_among m ms)
  where
    by_test : (b : Bool) → is_among t (if b then ms else ms ++ m ∷ []) ≡ true
    by_test true = h
    by_test false = among_left t ms (m ∷ []) h

pub noted_new : (ms : List (List ℕ)) (m : List ℕ) → is_among m (noted ms m) ≡ true
noted_new ms m = by_test (is_among m ms) refl
  where
    by_test : (b : Bool) → is_among m ms ≡ b → is_among m (if b then ms else ms ++ m ∷ []) ≡ true
    by_test true e = e
    by_test false e = among_right m ms (m ∷ []) (among_head m [])

pub noted_back : (ms : List (List ℕ)) (m t : List ℕ) → is_among t (noted ms m) ≡ true → (is_among t ms ≡ true) ⊎ (t ≡ m)
noted_back ms m t h = by_test (is_among m ms) h
  where
    by_test : (b : Bool) → is_among t (if b then ms else ms ++ m ∷ []) ≡ true → (is_among t ms ≡ true) ⊎ (t ≡ m)
    by_test true k = inl k
    by_test false k = elim (among_split t ms (m ∷ []) k) [ inl a ↦ inl a | inr b ↦ inr (among_one t m b) ]

-- what was noted stays, and what is hashed is noted
pub all_more : (ms ts : List (List ℕ)) (t : List ℕ) → is_among t ms ≡ true → is_among t (noted_all ms ts) ≡ true
all_more ms [] t h = h
all_more ms (x ∷ xs) t h = all_more (noted ms x) xs t (noted_more ms x t h)

pub all_new : (ms ts : List (List ℕ)) (t : List ℕ) → is_among t ts ≡ true → is_among t (noted_all ms ts) ≡ true
all_new ms [] t h = cc
all_new ms (x ∷ xs) t h = elim (or_cases (bytes_eq x t) (is_among t xs) h) [
  | inl q ↦ all_more (noted ms x) xs t (subst (λ y. is_among y (noted ms x) ≡ true) (bytes-true x t q) (noted_new ms x))
  | inr q ↦ all_new (noted ms x) xs t q
]

-- ---- no two of them have one digest

pub no_collision_none : (hash : List ℕ → List ℕ) → NoCollision hash []
no_collision_none hash = record { one = λ t u h k e. cc }

or_none : {A : Type 0} (a b : Option A) → option_or a b ≡ None → (a ≡ None) × (b ≡ None)
or_none None b h = (refl, h)
or_none (Some x) b h = cc

-- nothing is found among what doesn't pass
pub find_none : (p : List ℕ → Bool) (ms : List (List ℕ)) (u : List ℕ) → find p ms ≡ None → is_among u ms ≡ true → p u ≡ false
find_none p [] u h k = cc
find_none p (m ∷ ms) u h k = by_test (p m) refl h (or_cases (bytes_eq m u) (is_among u ms) k) (find_none p ms u)
  where
    by_test : (b : Bool) → p m ≡ b → cond b (Some m) (find p ms) ≡ None → (bytes_eq m u ≡ true) ⊎ (is_among u ms ≡ true)
        → (find p ms ≡ None → is_among u ms ≡ true → p u ≡ false) → p u ≡ false
    by_test true e x c ih = cc
    by_test false e x (inl q) ih = subst (λ y. p y ≡ false) (bytes-true m u q) e
    by_test false e x (inr q) ih = ih x q

no_collision_push : (hash : List ℕ → List ℕ) (ms : List (List ℕ)) (m : List ℕ) → NoCollision hash ms → collision_with hash ms m ≡ None
    → NoCollision hash (noted ms m)
no_collision_push hash ms m n h = record { one = λ t u i j e. by_case t u e (noted_back ms m t i) (noted_back ms m u j) }
  where
    none : (u : List ℕ) → is_among u ms ≡ true → hash u ≡ hash m → u ≡ m
    none u k e =
        let f = find_none (is_twin hash m) ms u (map_none _ (find (is_twin hash m) ms) h) k in
        let g : bytes_eq (hash u) (hash m) ≡ true = subst (λ y. bytes_eq (hash u) y ≡ true) e (bytes_refl (hash u)) in
        let x : bytes_eq u m ≡ true = grind arith in
        bytes-true u m x

    by_case : (t u : List ℕ) → hash t ≡ hash u → (is_among t ms ≡ true) ⊎ (t ≡ m) → (is_among u ms ≡ true) ⊎ (u ≡ m) → t ≡ u
    by_case t u e (inl x) (inl y) = n.one t u x y e
    by_case t u e (inl x) (inr y) = none t x (e ∙ ap hash y) ∙ sym y
    by_case t u e (inr x) (inl y) = x ∙ sym (none u y (sym e ∙ ap hash x))
    by_case t u e (inr x) (inr y) = x ∙ sym y

pub no_collision : (hash : List ℕ → List ℕ) (ms ts : List (List ℕ)) → NoCollision hash ms → collision hash ms ts ≡ None → NoCollision hash (noted_all ms ts)
no_collision hash ms [] n h = n
no_collision hash ms (t ∷ ts) n h =
    let f = or_none (collision_with hash ms t) (collision hash (noted ms t) ts) h in
    no_collision hash (noted ms t) ts (no_collision_push hash ms t n f.0) f.1
