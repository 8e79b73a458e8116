-- Values below 32 are had back from their letters, in either case.
use Rattle.std.proofs.Common.{◌≡◌, ℕ, zero, suc, ◌+◌, ◌<◌, List, [], ◌∷◌, ◌++◌, map, refl, arith, inl, inr, Bool, true, false, subst}
use Rattle.std.specs.Prelude.{◌==◌, ◌&&◌, not}
use Rattle.std.specs.Char.{to_ascii_lowercase, to_ascii_uppercase}
use Rattle.std.specs.List.{range_with_len}
use Rattle.std.proofs.Common.{eq-eqb, sym}
use Rattle.std.proofs.lemmas.Bool.{and_parts, cases_lt, eqb-true}
use Rattle.spec_address.specs.Address.{letter_of, separator, value_of}

-- ---- values below 32

abbrev pub AreSmall : List ℕ → Type 0
AreSmall [] = Unit {0}
AreSmall (v ∷ vs) = (v < 32) × AreSmall vs

pub small_append : (xs ys : List ℕ) → AreSmall xs → AreSmall ys → AreSmall (xs ++ ys)
small_append [] ys h k = k
small_append (x ∷ xs) ys h k = (h.0, small_append xs ys h.1 k)

pub small_map : (f : ℕ → ℕ) (a n : ℕ) → ((i : ℕ) → f i < 32) → AreSmall (map f (range_with_len a n))
small_map f a zero h = tt
small_map f a (suc n) h = (h a, small_map f (a + 1) n h)

-- ---- what is computed for each of them

abbrev all_below : (ℕ → Bool) → ℕ → Bool
all_below test zero = true
all_below test (suc n) = test n && all_below test n

below_at : (test : ℕ → Bool) (n v : ℕ) → all_below test n ≡ true → v < n → test v ≡ true
below_at test zero v h less = absurd (omega arith)
below_at test (suc n) v h less =
    let parts = and_parts (test n) (all_below test n) h in
    elim (cases_lt v n) [
      | inl lower ↦ below_at test n v (parts.1) lower
      | inr top ↦ let e : n ≡ v = omega arith in subst (λ (k : ℕ). test k ≡ true) e (parts.0)
    ]

pub small_letter_back : (v : ℕ) → v < 32 → value_of (to_ascii_lowercase (letter_of v)) ≡ v
small_letter_back v h =
    eqb-true (value_of (to_ascii_lowercase (letter_of v))) v (below_at (λ n. value_of (to_ascii_lowercase (letter_of n)) == n) 32 v refl h)

pub capital_back : (v : ℕ) → v < 32 → value_of (to_ascii_lowercase (to_ascii_uppercase (letter_of v))) ≡ v
capital_back v h =
    eqb-true (value_of (to_ascii_lowercase (to_ascii_uppercase (letter_of v)))) v
    (below_at (λ n. value_of (to_ascii_lowercase (to_ascii_uppercase (letter_of n))) == n) 32 v refl h)

pub letter_is_small : (v : ℕ) → v < 32 → to_ascii_lowercase (letter_of v) ≡ letter_of v
letter_is_small v h =
    eqb-true (to_ascii_lowercase (letter_of v)) (letter_of v) (below_at (λ n. to_ascii_lowercase (letter_of n) == letter_of n) 32 v refl h)

no_separator : (v : ℕ) → v < 32 → letter_of v ≡ separator → ⊥
no_separator v h e =
    let other : not (letter_of v == separator) ≡ true = below_at (λ n. not (letter_of n == separator)) 32 v refl h in
    not_both (letter_of v == separator) other (eq-eqb (letter_of v) separator e)
  where
    not_both : (t : Bool) → not t ≡ true → t ≡ true → ⊥
    not_both true h k = absurd cc
    not_both false h k = absurd cc

-- ---- lists of them

pub values_back : (f : ℕ → ℕ) (vs : List ℕ) → ((v : ℕ) → v < 32 → value_of (to_ascii_lowercase (f v)) ≡ v) → AreSmall vs
    → map value_of (map to_ascii_lowercase (map f vs)) ≡ vs
values_back f [] each small = refl
values_back f (v ∷ vs) each small = λ j. each v (small.0) j ∷ values_back f vs each (small.1) j

pub letters_are_small : (vs : List ℕ) → AreSmall vs → map to_ascii_lowercase (map letter_of vs) ≡ map letter_of vs
letters_are_small [] small = refl
letters_are_small (v ∷ vs) small = λ j. letter_is_small v (small.0) j ∷ letters_are_small vs (small.1) j

-- ---- the last separator

-- none of them is the separator
abbrev pub HasNoSeparator : List ℕ → Type 0
HasNoSeparator [] = Unit {0}
HasNoSeparator (x ∷ xs) = (x ≡ separator → ⊥) × HasNoSeparator xs

pub letters_have_none : (vs : List ℕ) → AreSmall vs → HasNoSeparator (map letter_of vs)
letters_have_none [] small = tt
letters_have_none (v ∷ vs) small = (no_separator v (small.0), letters_have_none vs (small.1))

has_one : (xs us : List ℕ) → HasNoSeparator (xs ++ separator ∷ us) → ⊥
has_one [] us h = h.0 refl
has_one (x ∷ xs) us h = has_one xs us (h.1)

-- what stands before the last separator is known
pub before_last : (xs ys us vs : List ℕ) → HasNoSeparator us → HasNoSeparator vs → xs ++ separator ∷ us ≡ ys ++ separator ∷ vs → xs ≡ ys
before_last [] [] us vs h k e = refl
before_last [] (y ∷ ys) us vs h k e = let rest : us ≡ ys ++ separator ∷ vs = cc in absurd (has_one ys vs (subst HasNoSeparator rest h))
before_last (x ∷ xs) [] us vs h k e = let rest : xs ++ separator ∷ us ≡ vs = cc in absurd (has_one xs us (subst HasNoSeparator (sym rest) k))
before_last (x ∷ xs) (y ∷ ys) us vs h k e =
    let first : x ≡ y = cc in
    let rest : xs ++ separator ∷ us ≡ ys ++ separator ∷ vs = cc in
    λ j. first j ∷ before_last xs ys us vs h k rest j
