-- Facts about lists to which one element is added.
use Rattle.std.proofs.Common.{◌≡◌, ℕ, Bool, true, false, not, List, [], ◌∷◌, ◌++◌, refl, sym, ◌∙◌}
use Rattle.std.specs.Prelude.{if◌then◌else◌, ◌&&◌, ◌||◌}
use Rattle.std.specs.List.{list_all}
use Rattle.std.specs.Str.{bytes_eq}
use Rattle.std.proofs.lemmas.List.Folds.{list_any-append, list_all-append}
use Rattle.std.proofs.lemmas.Slice.Eq.{bytes_eq-Decides}
use Rattle.spec_data.specs.Lists.{is_among, are_different}

pub and_is : (a b : Bool) → a ≡ true → b ≡ true → (a && b) ≡ true
and_is true true p q = refl
and_is true false p q = q
and_is false b p q = p

pub and_left : (a b : Bool) → (a && b) ≡ true → a ≡ true
and_left true b h = refl
and_left false b h = h

pub and_right : (a b : Bool) → (a && b) ≡ true → b ≡ true
and_right true b h = h
and_right false b h = absurd cc

pub or_no : (a b : Bool) → a ≡ false → b ≡ false → (a || b) ≡ false
or_no a b p q = rw (p, q) refl

pub or_left : (a b : Bool) → (a || b) ≡ false → a ≡ false
or_left true b h = h
or_left false b h = refl

pub or_right : (a b : Bool) → (a || b) ≡ false → b ≡ false
or_right true b h = absurd cc
or_right false b h = h

pub or_yes : (a b : Bool) → a ≡ true → (a || b) ≡ true
or_yes a b p = rw p refl

pub not_yes : (b : Bool) → not b ≡ true → b ≡ false
not_yes true h = absurd cc
not_yes false h = refl

pub not_no : (b : Bool) → b ≡ false → not b ≡ true
not_no b h = rw h refl

-- what a test led to: the first where it holds, or else the second
pub by_test : {A : Type 0} (t : Bool) (x y z : A) (P : Type 0) → (if t then x else y) ≡ z → (t ≡ true → x ≡ z → P) → (y ≡ z → P) → P
by_test true x y z P h f g = f refl h
by_test false x y z P h f g = g h

-- what is among names is among more of them
pub among_more : (x a : List ℕ) (names : List (List ℕ)) → is_among x names ≡ true → is_among x (names ++ a ∷ []) ≡ true
among_more x a names h = list_any-append (λ t. bytes_eq t x) names (a ∷ []) ∙ or_yes _ _ h

-- what passes for all by names passes by more names
pub all_among_more : {X : Type 0} (name : X → List ℕ) (a : List ℕ) (names : List (List ℕ)) (xs : List X)
    → list_all (λ x. is_among (name x) names) xs ≡ true → list_all (λ x. is_among (name x) (names ++ a ∷ [])) xs ≡ true
all_among_more name a names [] h = refl
all_among_more name a names (x ∷ xs) h = and_is _ _ (among_more (name x) a names (and_left _ _ h)) (all_among_more name a names xs (and_right _ _ h))

-- all and one more
pub all_push : {X : Type 0} (p : X → Bool) (xs : List X) (x : X) → list_all p xs ≡ true → p x ≡ true → list_all p (xs ++ x ∷ []) ≡ true
all_push p xs x h e = list_all-append p xs (x ∷ []) ∙ and_is _ _ h (and_is _ _ e refl)

same_truth : (a b : Bool) → (a ≡ true → b ≡ true) → (b ≡ true → a ≡ true) → a ≡ b
same_truth true true f g = refl
same_truth true false f g = sym (f refl)
same_truth false true f g = g refl
same_truth false false f g = refl

-- sameness of bytes goes both ways
pub bytes_eq-back : (xs ys : List ℕ) → bytes_eq xs ys ≡ bytes_eq ys xs
bytes_eq-back xs ys =
    same_truth _ _ (λ h. (bytes_eq-Decides ys xs).1 (sym ((bytes_eq-Decides xs ys).0 h))) (λ h. (bytes_eq-Decides xs ys).1 (sym ((bytes_eq-Decides ys xs).0 h)))

pub bytes_ne-back : (xs ys : List ℕ) → bytes_eq xs ys ≡ false → bytes_eq ys xs ≡ false
bytes_ne-back xs ys h = bytes_eq-back ys xs ∙ h

not_among_push : (t a : List ℕ) (ts : List (List ℕ)) → is_among t ts ≡ false → bytes_eq a t ≡ false → is_among t (ts ++ a ∷ []) ≡ false
not_among_push t a ts h e = list_any-append (λ u. bytes_eq u t) ts (a ∷ []) ∙ or_no _ _ h (or_no _ _ e refl)

-- different names and one that isn't among them
pub different_push : (names : List (List ℕ)) (a : List ℕ) → are_different names ≡ true → is_among a names ≡ false → are_different (names ++ a ∷ []) ≡ true
different_push [] a h new = refl
different_push (t ∷ ts) a h new =
    let apart : is_among t (ts ++ a ∷ []) ≡ false = not_among_push t a ts (not_yes _ (and_left _ _ h)) (bytes_ne-back t a (or_left _ _ new)) in
    and_is _ _ (not_no _ apart) (different_push ts a (and_right _ _ h) (or_right _ _ new))
