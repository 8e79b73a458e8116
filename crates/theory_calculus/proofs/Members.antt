-- Elements of lists, found and filtered, and tests over lists.
use Rattle.std.proofs.Common.{◌≡◌, ℕ, zero, suc, ◌+◌, ◌<◌, ◌≤◌, List, [], ◌∷◌, ◌++◌, length, Bool, true, false, Option, Some, None, refl, sym, subst, arith, inl, inr, ◌⊎◌, map, ap}
use Rattle.std.specs.Prelude.{slice_index_or, if◌then◌else◌, cond, is_some, slice_get, ◌&&◌}
use Rattle.std.specs.List.{Contains, filter, find, list_all}
use Rattle.std.proofs.lemmas.Bool.{and_parts, and_from}
use Rattle.spec_data.specs.Lists.{first_false, AllTrue}
use Rattle.theory_calculus.specs.Members.{Is_in}

-- ---- an element of a list

-- a list that has an element has some length
pub in_some : {A : Type 0} (x : A) (xs : List A) → Is_in x xs → 0 < length xs
in_some x [] h = absurd h
in_some x (y ∷ xs) h = omega arith

pub in_left : {A : Type 0} (x : A) (xs ys : List A) → Is_in x xs → Is_in x (xs ++ ys)
in_left x [] ys h = absurd h
in_left x (y ∷ xs) ys (inl e) = inl e
in_left x (y ∷ xs) ys (inr i) = inr (in_left x xs ys i)

pub in_right : {A : Type 0} (x : A) (xs ys : List A) → Is_in x ys → Is_in x (xs ++ ys)
in_right x [] ys h = h
in_right x (y ∷ xs) ys h = inr (in_right x xs ys h)

pub in_append : {A : Type 0} (x : A) (xs ys : List A) → Is_in x (xs ++ ys) → Is_in x xs ⊎ Is_in x ys
in_append x [] ys h = inr h
in_append x (y ∷ xs) ys (inl e) = inl (inl e)
in_append x (y ∷ xs) ys (inr i) = elim (in_append x xs ys i) [ inl a ↦ inl (inr a) | inr b ↦ inr b ]

pub in_at : {A : Type 0} (xs : List A) (k : ℕ) (x : A) → k < length xs → slice_index_or xs k x ≡ x → Is_in x xs
in_at [] k x l e = absurd (omega (arith, l))
in_at (y ∷ xs) zero x l e = inl (sym e)
in_at (y ∷ xs) (suc k) x l e = inr (in_at xs k x (omega (arith, l)) e)

pub in_from_contains : {A : Type 0} (xs : List A) (x : A) → Contains xs x → Is_in x xs
in_from_contains xs x h = in_at xs h.0 x h.1 h.2

pub contains_from_in : {A : Type 0} (xs : List A) (x : A) → Is_in x xs → Contains xs x
contains_from_in [] x h = absurd h
contains_from_in (y ∷ xs) x (inl e) = (0, omega arith, sym e)
contains_from_in (y ∷ xs) x (inr i) = let r = contains_from_in xs x i in (suc r.0, omega (arith, r.1), r.2)

-- ---- filters

pub in_filter : {A : Type 0} (p : A → Bool) (xs : List A) (x : A) → Is_in x (filter p xs) → Is_in x xs × (p x ≡ true)
in_filter p [] x h = absurd h
in_filter p (y ∷ xs) x h = by_test (p y) refl h (in_filter p xs x)
  where
    by_test : (b : Bool) → p y ≡ b → Is_in x (if b then y ∷ filter p xs else filter p xs)
        → (Is_in x (filter p xs) → Is_in x xs × (p x ≡ true)) → Is_in x (y ∷ xs) × (p x ≡ true)
    by_test true e (inl q) ih = (inl q, subst (λ z. p z ≡ true) (sym q) e)
    by_test true e (inr q) ih = let r = ih q in (inr r.0, r.1)
    by_test false e q ih = let r = ih q in (inr r.0, r.1)

pub filter_has : {A : Type 0} (p : A → Bool) (xs : List A) (x : A) → Is_in x xs → p x ≡ true → Is_in x (filter p xs)
filter_has p [] x i h = absurd i
filter_has p (y ∷ xs) x (inl q) h = let e : p y ≡ true = subst (λ z. p z ≡ true) q h in rw e (inl q)
filter_has p (y ∷ xs) x (inr q) h = by_test (p y) (filter_has p xs x q h)
  where
    by_test : (b : Bool) → Is_in x (filter p xs) → Is_in x (if b then y ∷ filter p xs else filter p xs)
    by_test true i = inr i
    by_test false i = i

-- ---- tests over lists

pub all_in : {A : Type 0} (f : A → Bool) (xs : List A) (x : A) → list_all f xs ≡ true → Is_in x xs → f x ≡ true
all_in f [] x h i = absurd i
all_in f (y ∷ xs) x h (inl e) = subst (λ z. f z ≡ true) (sym e) (and_parts (f y) (list_all f xs) h).0
all_in f (y ∷ xs) x h (inr i) = all_in f xs x (and_parts (f y) (list_all f xs) h).1 i

-- what is had at a number stands below the length
pub get_below : {A : Type 0} (xs : List A) (n : ℕ) (x : A) → slice_get xs n ≡ Some x → n < length xs
get_below [] n x h = cc
get_below (y ∷ xs) zero x h = omega arith
get_below (y ∷ xs) (suc n) x h = let r = get_below xs n x h in omega (arith, r)

pub all_get : {A : Type 0} (f : A → Bool) (xs : List A) (i : ℕ) (x : A) → list_all f xs ≡ true → slice_get xs i ≡ Some x → f x ≡ true
all_get f [] i x h e = cc
all_get f (y ∷ xs) zero x h e = let z : y ≡ x = cc in subst (λ w. f w ≡ true) z (and_parts (f y) (list_all f xs) h).0
all_get f (y ∷ xs) (suc i) x h e = all_get f xs i x (and_parts (f y) (list_all f xs) h).1 e

pub all_map : {A B : Type 0} (f : B → Bool) (g : A → B) (xs : List A) → list_all f (map g xs) ≡ list_all (λ x. f (g x)) xs
all_map f g [] = refl
all_map f g (x ∷ xs) = ap (λ b. f (g x) && b) (all_map f g xs)

pub all_append : {A : Type 0} (f : A → Bool) (xs ys : List A) → list_all f xs ≡ true → list_all f ys ≡ true → list_all f (xs ++ ys) ≡ true
all_append f [] ys h k = k
all_append f (x ∷ xs) ys h k = let p = and_parts (f x) (list_all f xs) h in and_from _ _ p.0 (all_append f xs ys p.1 k)

pub all_filter : {A : Type 0} (f p : A → Bool) (xs : List A) → list_all f xs ≡ true → list_all f (filter p xs) ≡ true
all_filter f p [] h = refl
all_filter f p (x ∷ xs) h = let q = and_parts (f x) (list_all f xs) h in by_test (p x) q.0 (all_filter f p xs q.1)
  where
    by_test : (b : Bool) → f x ≡ true → list_all f (filter p xs) ≡ true → list_all f (if b then x ∷ filter p xs else filter p xs) ≡ true
    by_test true a ih = and_from _ _ a ih
    by_test false a ih = ih

pub all_then : {A : Type 0} (f g : A → Bool) (xs : List A) → ((x : A) → f x ≡ true → g x ≡ true) → list_all f xs ≡ true
    → list_all g xs ≡ true
all_then f g [] h a = refl
all_then f g (x ∷ xs) h a = let p = and_parts (f x) (list_all f xs) a in and_from _ _ (h x p.0) (all_then f g xs h p.1)

-- ---- what is found

-- what is found stands in the list and passes the test
pub found : {A : Type 0} (p : A → Bool) (xs : List A) (x : A) → find p xs ≡ Some x → Is_in x xs × (p x ≡ true)
found p [] x h = cc
found p (y ∷ xs) x h = by_test (p y) refl h (found p xs x)
  where
    by_test : (b : Bool) → p y ≡ b → cond b (Some y) (find p xs) ≡ Some x → (find p xs ≡ Some x → Is_in x xs × (p x ≡ true))
        → Is_in x (y ∷ xs) × (p x ≡ true)
    by_test true e q ih = let z : y ≡ x = cc in (inl (sym z), subst (λ w. p w ≡ true) z e)
    by_test false e q ih = let r = ih q in (inr r.0, r.1)

-- what is there
pub some_there : {A : Type 0} (o : Option A) → is_some o ≡ true → (x : A) × (o ≡ Some x)
some_there None h = cc
some_there (Some x) h = (x, refl)

-- ---- premises

-- where no premise fails, all are true
pub no_false : (n : ℕ) (bs : List Bool) → 1 ≤ n → first_false n bs ≡ 0 → AllTrue bs
no_false n [] l h = tt
no_false n (b ∷ bs) l h = by_test b refl h (no_false (n + 1) bs (omega arith))
  where
    by_test : (c : Bool) → b ≡ c → (if c then first_false (n + 1) bs else n) ≡ 0 → (first_false (n + 1) bs ≡ 0 → AllTrue bs)
        → (b ≡ true) × AllTrue bs
    by_test true e q ih = (e, ih q)
    by_test false e q ih = absurd (omega (arith, l, q))
