-- Witnesses of which none is longer than another's, item by item.
use Rattle.std.proofs.Common.{◌≡◌, ℕ, zero, suc, ◌≤◌, List, [], ◌∷◌, ◌++◌, length, reverse, replicate, refl, sym, ap, subst, arith}
use Rattle.std.specs.List.{AllByRecursion}
use Rattle.std.proofs.lemmas.List.{reverse-append}

-- ---- items

-- each item of the first is no longer than that of the second
abbrev pub NoLonger : List (List ℕ) → List (List ℕ) → Type 0
NoLonger [] [] = Unit {0}
NoLonger [] (y ∷ ys) = ⊥
NoLonger (x ∷ xs) [] = ⊥
NoLonger (x ∷ xs) (y ∷ ys) = (length x ≤ length y) × NoLonger xs ys

-- and so of each witness
abbrev pub AllNoLonger : List (List (List ℕ)) → List (List (List ℕ)) → Type 0
AllNoLonger [] [] = Unit {0}
AllNoLonger [] (y ∷ ys) = ⊥
AllNoLonger (x ∷ xs) [] = ⊥
AllNoLonger (x ∷ xs) (y ∷ ys) = NoLonger x y × AllNoLonger xs ys

pub no_longer_same : (xs : List (List ℕ)) → NoLonger xs xs
no_longer_same [] = tt
no_longer_same (x ∷ xs) = (omega arith, no_longer_same xs)

pub no_longer_append : (xs ys us vs : List (List ℕ)) → NoLonger xs ys → NoLonger us vs → NoLonger (xs ++ us) (ys ++ vs)
no_longer_append [] [] us vs h k = k
no_longer_append [] (y ∷ ys) us vs h k = absurd h
no_longer_append (x ∷ xs) [] us vs h k = absurd h
no_longer_append (x ∷ xs) (y ∷ ys) us vs h k = (h.0, no_longer_append xs ys us vs h.1 k)

pub no_longer_reversed : (xs ys : List (List ℕ)) → NoLonger xs ys → NoLonger (reverse xs) (reverse ys)
no_longer_reversed [] [] h = tt
no_longer_reversed [] (y ∷ ys) h = absurd h
no_longer_reversed (x ∷ xs) [] h = absurd h
no_longer_reversed (x ∷ xs) (y ∷ ys) h =
    let a = reverse-append (x ∷ []) xs in
    let b = reverse-append (y ∷ []) ys in
    let k = no_longer_append (reverse xs) (reverse ys) (x ∷ []) (y ∷ []) (no_longer_reversed xs ys h.1) (h.0, tt) in
    subst (λ zs. NoLonger zs (reverse (y ∷ ys))) (sym a) (subst (λ zs. NoLonger (reverse xs ++ x ∷ []) zs) (sym b) k)

pub no_longer_count : (xs ys : List (List ℕ)) → NoLonger xs ys → length xs ≡ length ys
no_longer_count [] [] h = refl
no_longer_count [] (y ∷ ys) h = absurd h
no_longer_count (x ∷ xs) [] h = absurd h
no_longer_count (x ∷ xs) (y ∷ ys) h = ap suc (no_longer_count xs ys h.1)

-- ---- items of one size

-- items of at most so many bytes are no longer than as many of at least so many
pub no_longer_sized : (size : ℕ) (xs ys : List (List ℕ)) → AllByRecursion (λ x. length x ≤ size) xs → AllByRecursion (λ y. size ≤ length y) ys
    → length xs ≡ length ys → NoLonger xs ys
no_longer_sized size [] [] a b c = tt
no_longer_sized size [] (y ∷ ys) a b c = omega (arith, c)
no_longer_sized size (x ∷ xs) [] a b c = omega (arith, c)
no_longer_sized size (x ∷ xs) (y ∷ ys) a b c =
    (let e = a.0 in let f = b.0 in omega (arith, e, f), no_longer_sized size xs ys a.1 b.1 (omega (arith, c)))

pub each_replicated : {A : Type 0} (P : A → Type 0) (n : ℕ) (x : A) → P x → AllByRecursion P (replicate n x)
each_replicated P zero x h = tt
each_replicated P (suc n) x h = (h, each_replicated P n x h)

pub each_weaker : {A : Type 0} (P Q : A → Type 0) → ((x : A) → P x → Q x) → (xs : List A) → AllByRecursion P xs → AllByRecursion Q xs
each_weaker P Q f [] h = tt
each_weaker P Q f (x ∷ xs) h = (f x h.0, each_weaker P Q f xs h.1)
