-- Tests over lists.
use Rattle.std.proofs.Common.{◌≡◌, ℕ, suc, ◌+◌, List, [], ◌∷◌, ◌++◌, length, map, Bool, true, refl, ap, subst, arith, inl, inr}
use Rattle.std.specs.Prelude.{◌==◌, ◌&&◌, ◌||◌}
use Rattle.std.specs.List.{filter, list_all, list_any, fold, sum_by}
use Rattle.std.proofs.lemmas.Bool.{and_parts, and_from, or_cases, eqb-true}
use Rattle.spec_data.specs.Lists.{has_number}

pub all_alike : {X : Type 0} (f g : X → Bool) (xs : List X) → ((x : X) → f x ≡ g x) → list_all f xs ≡ list_all g xs
all_alike f g xs h = λ i. list_all (λ x. h x i) xs

pub any_alike : {X : Type 0} (f g : X → Bool) (xs : List X) → ((x : X) → f x ≡ g x) → list_any f xs ≡ list_any g xs
any_alike f g xs h = λ i. list_any (λ x. h x i) xs

pub all_of : {X : Type 0} (f : X → Bool) (xs : List X) → ((x : X) → f x ≡ true) → list_all f xs ≡ true
all_of f [] h = refl
all_of f (x ∷ xs) h = and_from _ _ (h x) (all_of f xs h)

pub any_map : {X Y : Type 0} (f : Y → Bool) (g : X → Y) (xs : List X) → list_any f (map g xs) ≡ list_any (λ x. f (g x)) xs
any_map f g [] = refl
any_map f g (x ∷ xs) = ap (λ b. f (g x) || b) (any_map f g xs)

pub any-append : {X : Type 0} (p : X → Bool) (xs ys : List X) → list_any p (xs ++ ys) ≡ (list_any p xs || list_any p ys)
any-append p [] ys = refl
any-append p (x ∷ xs) ys = grind (arith, any-append p xs ys)

pub all-append : {X : Type 0} (p : X → Bool) (xs ys : List X) → list_all p (xs ++ ys) ≡ (list_all p xs && list_all p ys)
all-append p [] ys = refl
all-append p (x ∷ xs) ys = grind (arith, all-append p xs ys)

pub filter-append : {X : Type 0} (p : X → Bool) (xs ys : List X) → filter p (xs ++ ys) ≡ filter p xs ++ filter p ys
filter-append p [] ys = refl
filter-append p (x ∷ xs) ys = grind (arith, filter-append p xs ys)

fold_map : {X Y Z : Type 0} (h : Z → Y → Z) (g : X → Y) (a : Z) (xs : List X) → fold h a (map g xs) ≡ fold (λ z x. h z (g x)) a xs
fold_map h g a [] = refl
fold_map h g a (x ∷ xs) = fold_map h g (h a (g x)) xs

pub sum_map : {X Y : Type 0} (f : Y → ℕ) (g : X → Y) (xs : List X) → sum_by f (map g xs) ≡ sum_by (λ x. f (g x)) xs
sum_map f g xs = fold_map (λ a y. a + f y) g 0 xs

pub length_map : {X Y : Type 0} (g : X → Y) (xs : List X) → length (map g xs) ≡ length xs
length_map g [] = refl
length_map g (x ∷ xs) = ap suc (length_map g xs)

pub map_map : {X Y Z : Type 0} (f : Y → Z) (g : X → Y) (xs : List X) → map f (map g xs) ≡ map (λ x. f (g x)) xs
map_map f g [] = refl
map_map f g (x ∷ xs) = ap (λ ys. f (g x) ∷ ys) (map_map f g xs)

pub map_append : {X Y : Type 0} (f : X → Y) (xs ys : List X) → map f (xs ++ ys) ≡ map f xs ++ map f ys
map_append f [] ys = refl
map_append f (x ∷ xs) ys = ap (λ zs. f x ∷ zs) (map_append f xs ys)

-- what holds of all holds of a number among them
pub all_has : (f : ℕ → Bool) (xs : List ℕ) (a : ℕ) → list_all f xs ≡ true → has_number a xs ≡ true → f a ≡ true
all_has f [] a h i = cc
all_has f (x ∷ xs) a h i =
    let p = and_parts (f x) (list_all f xs) h in
    elim (or_cases (x == a) (has_number a xs) i) [
      | inl q ↦ subst (λ y. f y ≡ true) (eqb-true x a q) p.0
      | inr q ↦ all_has f xs a p.1 q
    ]
