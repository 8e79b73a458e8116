-- Lists that stand in order among others, and elements of lists that are made of lists.
use Rattle.std.proofs.Common.{List, [], ◌∷◌, ◌++◌, map, Bool, true, false, refl, ap, subst, inl, inr}
use Rattle.std.specs.Prelude.{if◌then◌else◌}
use Rattle.std.specs.List.{filter, flat_map}
use Rattle.theory_calculus.specs.Members.{Is_in}
use Rattle.theory_calculus.proofs.Members.{in_left, in_right}
use Rattle.theory_audit.specs.Audited.{AreInOrder}

pub order_more : {A : Type 0} (xs : List A) (y : A) (ys : List A) → AreInOrder xs ys → AreInOrder xs (y ∷ ys)
order_more [] y ys h = tt
order_more (x ∷ xs) y ys h = inr h

pub order_filter : {A : Type 0} (p : A → Bool) (xs : List A) → AreInOrder (filter p xs) xs
order_filter p [] = tt
order_filter p (x ∷ xs) = by_test (p x) (order_filter p xs)
  where
    by_test : (b : Bool) → AreInOrder (filter p xs) xs → AreInOrder (if b then x ∷ filter p xs else filter p xs) (x ∷ xs)
    by_test true h = inl (refl, h)
    by_test false h = order_more (filter p xs) x xs h

pub order_map : {A B : Type 0} (f : A → B) (xs ys : List A) → AreInOrder xs ys → AreInOrder (map f xs) (map f ys)
order_map f [] ys h = tt
order_map f (x ∷ xs) [] h = absurd h
order_map f (x ∷ xs) (y ∷ ys) (inl h) = inl (ap f h.0, order_map f xs ys h.1)
order_map f (x ∷ xs) (y ∷ ys) (inr h) = inr (order_map f (x ∷ xs) ys h)

pub order_append : {A : Type 0} (xs ys us vs : List A) → AreInOrder xs ys → AreInOrder us vs → AreInOrder (xs ++ us) (ys ++ vs)
order_append [] [] us vs h k = k
order_append [] (y ∷ ys) us vs h k = order_more us y (ys ++ vs) (order_append [] ys us vs tt k)
order_append (x ∷ xs) [] us vs h k = absurd h
order_append (x ∷ xs) (y ∷ ys) us vs (inl h) k = inl (h.0, order_append xs ys us vs h.1 k)
order_append (x ∷ xs) (y ∷ ys) us vs (inr h) k = inr (order_append (x ∷ xs) ys us vs h k)

pub order_flat : {A B : Type 0} (f g : A → List B) → ((x : A) → AreInOrder (f x) (g x)) → (xs : List A)
    → AreInOrder (flat_map f xs) (flat_map g xs)
order_flat f g h [] = tt
order_flat f g h (x ∷ xs) = order_append (f x) (g x) (flat_map f xs) (flat_map g xs) (h x) (order_flat f g h xs)

pub flat_has : {A B : Type 0} (f : A → List B) (xs : List A) (x : A) (y : B) → Is_in x xs → Is_in y (f x) → Is_in y (flat_map f xs)
flat_has f [] x y i h = absurd i
flat_has f (z ∷ xs) x y (inl e) h = in_left y (f z) (flat_map f xs) (subst (λ u. Is_in y (f u)) e h)
flat_has f (z ∷ xs) x y (inr i) h = in_right y (f z) (flat_map f xs) (flat_has f xs x y i h)
