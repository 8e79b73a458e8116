-- Names as byte strings: equal where they test equal, among others, repeated or not, and what is found by them.
use Rattle.std.proofs.Common.{◌≡◌, ℕ, ◌+◌, List, [], ◌∷◌, ◌++◌, map, Bool, true, false, not, Some, None, refl, sym, ap, ◌∙◌, subst, arith, inl, inr}
use Rattle.std.specs.Prelude.{◌||◌, if◌then◌else◌}
use Rattle.std.specs.List.{list_all}
use Rattle.std.specs.Str.{bytes_eq}
use Rattle.std.proofs.lemmas.Bool.{and_parts, and_from, or_cases, or_left, or_right, or_parts, not-true, not_from_false, both_ways, false_from_ne_true}
use Rattle.std.proofs.lemmas.Slice.Eq.{bytes_eq-Decides}
use Rattle.spec_data.specs.Lists.{is_among, are_different, look_up}
use Rattle.spec_terms.specs.Advert.{Advert}
use Rattle.spec_terms.specs.Faults.{IsWellFormed, first_repeated}
use Rattle.spec_terms.specs.Precondition.{Holding, persistent, volatile, deposits, names_of, name_in}
use Rattle.spec_terms.specs.declared.place.Place.TheVariants as places
use Rattle.spec_terms.specs.declared.pre.Pre.{Pre}
use Rattle.spec_terms.specs.declared.pre.Pre.TheVariants.{Persistent, Volatile, Secret}
use Rattle.theory_calculus.specs.Members.{Is_in}
use Rattle.theory_calculus.proofs.Faultless.{map_none, no_fault}

-- ---- byte strings

pub bytes-true : (xs ys : List ℕ) → bytes_eq xs ys ≡ true → xs ≡ ys
bytes-true xs ys h = (bytes_eq-Decides xs ys).0 h

pub bytes_refl : (xs : List ℕ) → bytes_eq xs xs ≡ true
bytes_refl xs = (bytes_eq-Decides xs xs).1 refl

-- what holds of all holds of one among them
pub all_among : (f : List ℕ → Bool) (xs : List (List ℕ)) (a : List ℕ) → list_all f xs ≡ true → is_among a xs ≡ true → f a ≡ true
all_among f [] a h i = cc
all_among f (x ∷ xs) a h i =
    let p = and_parts (f x) (list_all f xs) h in
    elim (or_cases _ (is_among a xs) i) [
      | inl q ↦ subst (λ y. f y ≡ true) (bytes-true x a q) p.0
      | inr q ↦ all_among f xs a p.1 q
    ]

pub among-append : (n : List ℕ) (xs ys : List (List ℕ)) → is_among n (xs ++ ys) ≡ (is_among n xs || is_among n ys)
among-append n [] ys = refl
among-append n (x ∷ xs) ys = grind (arith, among-append n xs ys)

-- ---- names that differ

-- names none of which is repeated after others are different, and none of those
pub none_repeated : (k : ℕ) (before xs : List (List ℕ)) → first_repeated k before xs ≡ None
    → (are_different xs ≡ true) × ((n : List ℕ) → is_among n xs ≡ true → is_among n before ≡ false)
none_repeated k before [] h = (refl, λ n i. cc)
none_repeated k before (x ∷ xs) h = by_test (is_among x before) refl h (none_repeated (k + 1) (before ++ x ∷ []) xs)
  where
    by_test : (b : Bool) → is_among x before ≡ b → (if b then Some k else first_repeated (k + 1) (before ++ x ∷ []) xs) ≡ None
        → (first_repeated (k + 1) (before ++ x ∷ []) xs ≡ None
        → (are_different xs ≡ true) × ((n : List ℕ) → is_among n xs ≡ true → is_among n (before ++ x ∷ []) ≡ false))
        → (are_different (x ∷ xs) ≡ true) × ((n : List ℕ) → is_among n (x ∷ xs) ≡ true → is_among n before ≡ false)
    by_test true e q ih = cc
    by_test false e q ih =
        let r = ih q in
        let here : is_among x (before ++ x ∷ []) ≡ true =
        among-append x before (x ∷ []) ∙ or_right (is_among x before) _ (or_left _ _ (bytes_refl x)) in
        let apart : is_among x xs ≡ false = false_from_ne_true _ (λ t. both_ways _ (r.1 x t) here) in (
          and_from _ _ (not_from_false _ apart) r.0,
          λ n i. elim (or_cases (bytes_eq x n) (is_among n xs) i) [
            | inl a ↦ subst (λ y. is_among y before ≡ false) (bytes-true x n a) e
            | inr b ↦ (or_parts (is_among n before) (is_among n (x ∷ [])) (sym (among-append n before (x ∷ [])) ∙ r.1 n b)).0
          ],
        )

-- the faultless have different names
pub different_names : (a : Advert) → IsWellFormed a → are_different (map name_in a.pre) ≡ true
different_names a h =
    (none_repeated 0 [] (map name_in a.pre) (map_none places.Pre (first_repeated 0 [] (map name_in a.pre)) (no_fault a h).0)).0

pub persistent_named : (pre : List Pre) (n : List ℕ) → is_among n (names_of (persistent pre)) ≡ true → is_among n (map name_in pre) ≡ true
persistent_named [] n h = h
persistent_named (Persistent party value name ∷ pre) n h =
    elim (or_cases (bytes_eq name n) (is_among n (names_of (persistent pre))) h)
    [ inl a ↦ or_left _ _ a | inr b ↦ or_right (bytes_eq name n) _ (persistent_named pre n b) ]
persistent_named (Volatile party value name ∷ pre) n h = or_right (bytes_eq name n) _ (persistent_named pre n h)
persistent_named (Secret party name ∷ pre) n h = or_right (bytes_eq name n) _ (persistent_named pre n h)

pub deposit_named : (pre : List Pre) (n : List ℕ) → is_among n (names_of (deposits pre)) ≡ true → is_among n (map name_in pre) ≡ true
deposit_named [] n h = h
deposit_named (Persistent party value name ∷ pre) n h =
    elim (or_cases (bytes_eq name n) (is_among n (names_of (deposits pre))) h)
    [ inl a ↦ or_left _ _ a | inr b ↦ or_right (bytes_eq name n) _ (deposit_named pre n b) ]
deposit_named (Volatile party value name ∷ pre) n h =
    elim (or_cases (bytes_eq name n) (is_among n (names_of (deposits pre))) h)
    [ inl a ↦ or_left _ _ a | inr b ↦ or_right (bytes_eq name n) _ (deposit_named pre n b) ]
deposit_named (Secret party name ∷ pre) n h = or_right (bytes_eq name n) _ (deposit_named pre n h)

module _ (pick : List Pre → List (List ℕ × Holding)) (named : (pre : List Pre) (n : List ℕ) → is_among n (names_of (pick pre)) ≡ true
    → is_among n (map name_in pre) ≡ true) where
  not_named : (name : List ℕ) (pre : List Pre) → is_among name (map name_in pre) ≡ false → is_among name (names_of (pick pre)) ≡ false
  not_named name pre h = false_from_ne_true _ (λ t. both_ways _ h (named pre name t))

pub persistent_different : (pre : List Pre) → are_different (map name_in pre) ≡ true → are_different (names_of (persistent pre)) ≡ true
persistent_different [] h = refl
persistent_different (Persistent party value name ∷ pre) h =
    let p = and_parts (not (is_among name (map name_in pre))) (are_different (map name_in pre)) h in
    and_from _ _ (not_from_false _ (not_named persistent persistent_named name pre (not-true _ p.0))) (persistent_different pre p.1)
persistent_different (Volatile party value name ∷ pre) h =
    persistent_different pre (and_parts (not (is_among name (map name_in pre))) (are_different (map name_in pre)) h).1
persistent_different (Secret party name ∷ pre) h =
    persistent_different pre (and_parts (not (is_among name (map name_in pre))) (are_different (map name_in pre)) h).1

pub deposits_different : (pre : List Pre) → are_different (map name_in pre) ≡ true → are_different (names_of (deposits pre)) ≡ true
deposits_different [] h = refl
deposits_different (Persistent party value name ∷ pre) h =
    let p = and_parts (not (is_among name (map name_in pre))) (are_different (map name_in pre)) h in
    and_from _ _ (not_from_false _ (not_named deposits deposit_named name pre (not-true _ p.0))) (deposits_different pre p.1)
deposits_different (Volatile party value name ∷ pre) h =
    let p = and_parts (not (is_among name (map name_in pre))) (are_different (map name_in pre)) h in
    and_from _ _ (not_from_false _ (not_named deposits deposit_named name pre (not-true _ p.0))) (deposits_different pre p.1)
deposits_different (Secret party name ∷ pre) h =
    deposits_different pre (and_parts (not (is_among name (map name_in pre))) (are_different (map name_in pre)) h).1

-- ---- deposits of a precondition

pub persistent_deposit : (pre : List Pre) (d : List ℕ × Holding) → Is_in d (persistent pre) → Is_in d (deposits pre)
persistent_deposit [] d h = absurd h
persistent_deposit (Persistent party value name ∷ pre) d (inl e) = inl e
persistent_deposit (Persistent party value name ∷ pre) d (inr k) = inr (persistent_deposit pre d k)
persistent_deposit (Volatile party value name ∷ pre) d h = inr (persistent_deposit pre d h)
persistent_deposit (Secret party name ∷ pre) d h = persistent_deposit pre d h

pub volatile_deposit : (pre : List Pre) (d : List ℕ × Holding) → Is_in d (volatile pre) → Is_in d (deposits pre)
volatile_deposit [] d h = absurd h
volatile_deposit (Persistent party value name ∷ pre) d h = inr (volatile_deposit pre d h)
volatile_deposit (Volatile party value name ∷ pre) d (inl e) = inl e
volatile_deposit (Volatile party value name ∷ pre) d (inr k) = inr (volatile_deposit pre d k)
volatile_deposit (Secret party name ∷ pre) d h = volatile_deposit pre d h

-- ---- what a name leads to

pub looked_in : {V : Type 0} (ps : List (List ℕ × V)) (name : List ℕ) (v : V) → look_up name ps ≡ Some v → Is_in (name, v) ps
looked_in [] name v h = cc
looked_in (p ∷ ps) name v h = by_test (bytes_eq (p.0) name) refl h (looked_in ps name v)
  where
    by_test : (b : Bool) → bytes_eq (p.0) name ≡ b → (if b then Some (p.1) else look_up name ps) ≡ Some v
        → (look_up name ps ≡ Some v → Is_in (name, v) ps) → Is_in (name, v) (p ∷ ps)
    by_test true e q ih = let z : p.1 ≡ v = cc in let n = sym (bytes-true (p.0) name e) in let y = sym z in inl (λ i. (n i, y i))
    by_test false e q ih = inr (ih q)

pub in_named : {V : Type 0} (ps : List (List ℕ × V)) (p : List ℕ × V) → Is_in p ps → is_among (p.0) (names_of ps) ≡ true
in_named [] p i = absurd i
in_named (q ∷ ps) p (inl e) = or_left _ _ (subst (λ x. bytes_eq (q.0) x ≡ true) (ap (λ y. y.0) (sym e)) (bytes_refl (q.0)))
in_named (q ∷ ps) p (inr i) = or_right (bytes_eq (q.0) (p.0)) _ (in_named ps p i)

-- among different names the first is the only one
pub in_looked : {V : Type 0} (ps : List (List ℕ × V)) (p : List ℕ × V) → are_different (names_of ps) ≡ true → Is_in p ps
    → look_up (p.0) ps ≡ Some (p.1)
in_looked [] p d i = absurd i
in_looked {V} (q ∷ ps) p d (inl e) =
    let here : look_up (q.0) (q ∷ ps) ≡ Some (q.1) = rw (bytes_refl (q.0)) refl in
    subst (λ (x : List ℕ × V). look_up (x.0) (q ∷ ps) ≡ Some (x.1)) (sym e) here
in_looked (q ∷ ps) p d (inr i) =
    let a = and_parts (not (is_among (q.0) (names_of ps))) (are_different (names_of ps)) d in
    let n = in_named ps p i in
    let f : bytes_eq (q.0) (p.0) ≡ false =
    false_from_ne_true _ (λ t. both_ways _ (not-true _ a.0) (subst (λ x. is_among x (names_of ps) ≡ true) (sym (bytes-true (q.0) (p.0) t)) n)) in
    rw f (in_looked ps p a.1 i)

pub named_looked : {V : Type 0} (ps : List (List ℕ × V)) (name : List ℕ) → is_among name (names_of ps) ≡ true → (v : V) × (look_up name ps ≡ Some v)
named_looked [] name h = cc
named_looked {V} (p ∷ ps) name h = by_test (bytes_eq (p.0) name) h (named_looked ps name)
  where
    by_test : (b : Bool) → (b || is_among name (names_of ps)) ≡ true
        → (is_among name (names_of ps) ≡ true → (v : V) × (look_up name ps ≡ Some v))
        → (v : V) × ((if b then Some (p.1) else look_up name ps) ≡ Some v)
    by_test true q ih = (p.1, refl)
    by_test false q ih = ih q

-- a volatile deposit's name leads to one of the deposits
pub volatile_named : (pre : List Pre) (name : List ℕ) → is_among name (names_of (volatile pre)) ≡ true
    → (h : Holding) × (look_up name (volatile pre) ≡ Some h) × Is_in (name, h) (deposits pre)
volatile_named pre name h =
    let l = named_looked (volatile pre) name h in
    (l.0, l.1, volatile_deposit pre (name, l.0) (looked_in (volatile pre) name l.0 l.1))
