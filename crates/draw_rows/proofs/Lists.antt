-- Words on lists that loops use.
use Rattle.std.proofs.Common.{◌≡◌, ℕ, List, [], ◌∷◌, ◌++◌, map, refl, ap, arith}
use Rattle.std.specs.Prelude.{sum_by, ◌+◌}
use Rattle.std.proofs.lemmas.List.Sums.{sum_by-cons}
use Rattle.spec_terms.specs.Advert.{Advert}
use Rattle.spec_terms.specs.Parties.{add_new, add_all}
use Rattle.spec_page.specs.Moments.{Moment}
use Rattle.spec_page.specs.Statuses.{sheet_looks, looks_from}
use Rattle.draw_rows.specs.Looked.{looks_in, all_looks}

pub add_more : (names xs ys : List (List ℕ)) → add_all names (xs ++ ys) ≡ add_all (add_all names xs) ys
add_more names [] ys = refl
add_more names (x ∷ xs) ys = add_more (add_new names x) xs ys

-- the sum of what a function gives
pub sum_of_map : {X : Type 0} → (f : X → ℕ) (xs : List X) → sum_by (λ v. v) (map f xs) ≡ sum_by f xs
sum_of_map f [] = refl
sum_of_map f (x ∷ xs) =
    let here = sum_by-cons (λ (v : ℕ). v) (f x) (map f xs) in
    let there = sum_by-cons f x xs in
    let rest = sum_of_map f xs in
    omega (arith, here, there, rest)

pub mapped_more : {X Y : Type 0} → (f : X → Y) (xs : List X) (x : X) → map f (xs ++ x ∷ []) ≡ map f xs ++ f x ∷ []
mapped_more f [] x = refl
mapped_more f (y ∷ ys) x = ap (λ zs. f y ∷ zs) (mapped_more f ys x)

pub looks_are : (m : Moment) (k : ℕ) (as' : List Advert) → all_looks m k as' ≡ looks_from m k as'
unfolding looks_in
looks_are m k [] = refl
looks_are m k (a ∷ as') = ap (λ zs. sheet_looks m k a ++ zs) (looks_are m (k + 1) as')
