-- What is true of all elements of a list, and what a loop makes of them.
use Rattle.std.proofs.Common.{◌≡◌, ℕ, ◌+◌, zero, suc, ◌<◌, List, [], ◌∷◌, ◌++◌, ◌∙◌, append_assoc, map, drop, length, get_or, Bool, true, refl, sym, ap, subst, arith}
use Rattle.std.specs.List.{list_all}
use Rattle.std.proofs.lemmas.Bool.{and_parts, and_from}
use Rattle.std.proofs.lemmas.List.{drop_more}
use Rattle.std.specs.Prelude.{◌&&◌}
pub use Rattle.bm_hash.proofs.Chains.{hashed_step, stops_step, mapped_step, hashed_each, stops_each, hashed_then, stops_then}
pub use Rattle.bm_hash.proofs.Chains.{hashed_four, stops_behind, stops_before}

-- what a step makes of an element that is a number
pub mapped_get : {Y : Type 0} (f : ℕ → Y) (xs : List ℕ) (i : ℕ) (y : Y) (now new all : List Y) → i < length xs → y ≡ f (get_or xs i 0)
    → new ≡ now ++ y ∷ [] → now ++ map f (drop i xs) ≡ all → new ++ map f (drop (i + 1) xs) ≡ all
mapped_get f xs i y now new all lt made pushed so =
    rw (pushed, made) (append_assoc now (f (get_or xs i 0) ∷ []) (map f (drop (i + 1) xs)) ∙ rw (drop_more xs i 0 lt) at so)

-- what is true of all, and of one more
pub all_push : {X : Type 0} (p : X → Bool) (xs : List X) (x : X) → list_all p xs ≡ true → p x ≡ true → list_all p (xs ++ x ∷ []) ≡ true
all_push p [] x h k = and_from (p x) true k refl
all_push p (y ∷ ys) x h k = let r = and_parts (p y) (list_all p ys) h in and_from (p y) (list_all p (ys ++ x ∷ [])) r.0 (all_push p ys x r.1 k)

pub map-view : {X Y Z : Type 0} (g : X → Y) (f : Y → Z) (xs : List X) → map f (map g xs) ≡ map (λ x. f (g x)) xs
map-view g f [] = refl
map-view g f (x ∷ xs) = ap (λ l. f (g x) ∷ l) (map-view g f xs)

-- what is true of all that a list is seen as
pub all_map : {X Y : Type 0} (g : X → Y) (f : Y → Bool) (xs : List X) → list_all f (map g xs) ≡ list_all (λ x. f (g x)) xs
all_map g f [] = refl
all_map g f (x ∷ xs) = ap (λ b. f (g x) && b) (all_map g f xs)

-- what is true of all is true of the one at a place
pub all_item : {X : Type 0} (f : X → Bool) (xs : List X) (i : ℕ) (x : X) → list_all f xs ≡ true → i < length xs → x ≡ get_or xs i x → f x ≡ true
all_item f [] i x h lt at = absurd (omega (arith, lt))
all_item f (y ∷ xs) zero x h lt at = subst (λ z. f z ≡ true) (sym at) (and_parts (f y) (list_all f xs) h).0
all_item f (y ∷ xs) (suc i) x h lt at = all_item f xs i x (and_parts (f y) (list_all f xs) h).1 (omega (arith, lt)) at

pub seen_item : {X Y : Type 0} (g : X → Y) (f : Y → Bool) (xs : List X) (i : ℕ) (x : X) → list_all f (map g xs) ≡ true → i < length xs → x
    ≡ get_or xs i x → f (g x) ≡ true
seen_item g f xs i x h lt at = all_item (λ y. f (g y)) xs i x (sym (all_map g f xs) ∙ h) lt at

-- and of what is left of them
pub all_drop : {X : Type 0} (f : X → Bool) (n : ℕ) (xs : List X) → list_all f xs ≡ true → list_all f (drop n xs) ≡ true
all_drop f zero xs h = h
all_drop f (suc n) [] h = refl
all_drop f (suc n) (x ∷ xs) h = all_drop f n xs (and_parts (f x) (list_all f xs) h).1
