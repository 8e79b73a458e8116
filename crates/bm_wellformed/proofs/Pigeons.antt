-- Different names, each among others, are no more than these.
use Rattle.std.proofs.Common.{◌≡◌, ℕ, ◌≤◌, ◌+◌, List, [], ◌∷◌, ◌++◌, length, Bool, true, false, refl, arith, ap, ◌∙◌}
use Rattle.std.specs.Prelude.{◌&&◌, ◌||◌, not, if◌then◌else◌}
use Rattle.std.specs.List.{list_all}
use Rattle.std.specs.Str.{bytes_eq}
use Rattle.std.specs.Cmp.{partial_equiv_from_equiv}
use Rattle.std.specs.Cmp.Lexicographic.{nat_list_eq_equiv}
use Rattle.std.proofs.lemmas.Bool.{and_parts, not-true}
use Rattle.std.proofs.lemmas.Slice.Eq.{bytes_eq-Decides}
use Rattle.spec_data.specs.Lists.{is_among, are_different}
use Rattle.spec_terms.specs.Parties.{add_new, add_all}

bytes_eq-sym : (x y : List ℕ) → bytes_eq x y ≡ bytes_eq y x
bytes_eq-sym = (partial_equiv_from_equiv nat_list_eq_equiv).symm

neither : (b m : Bool) → (b || m) ≡ false → (b ≡ false) × (m ≡ false)
neither true m h = cc
neither false m h = (refl, h)

-- a list without the first of these names
abbrev removed : List ℕ → List (List ℕ) → List (List ℕ)
removed x [] = []
removed x (y ∷ ys) = if bytes_eq y x then ys else (y ∷ removed x ys)

one_less : (b m : Bool) (y : List ℕ) (ys rest : List (List ℕ)) → (m ≡ true → length ys ≡ length rest + 1) → (b || m) ≡ true
    → length (y ∷ ys) ≡ length (if b then ys else (y ∷ rest)) + 1
one_less true m y ys rest k h = omega arith
one_less false m y ys rest k h = omega (arith, k h)

length-removed : (x : List ℕ) (ys : List (List ℕ)) → is_among x ys ≡ true → length ys ≡ length (removed x ys) + 1
length-removed x [] h = cc
length-removed x (y ∷ ys) h = one_less (bytes_eq y x) (is_among x ys) y ys (removed x ys) (length-removed x ys) h

or_kept : (c m n : Bool) → (m ≡ true → n ≡ true) → (c || m) ≡ true → (c || n) ≡ true
or_kept true m n k h = refl
or_kept false m n k h = k h

or_rest : (c m : Bool) → c ≡ false → (c || m) ≡ true → m ≡ true
or_rest true m e h = cc
or_rest false m e h = h

kept_by : (z x y : List ℕ) (ys : List (List ℕ)) (b : Bool) → bytes_eq x z ≡ false → bytes_eq y x ≡ b
    → (is_among z ys ≡ true → is_among z (removed x ys) ≡ true) → is_among z (y ∷ ys) ≡ true → is_among z (if b then ys else (y ∷ removed x ys)) ≡ true
kept_by z x y ys true ne e k h =
    let same : y ≡ x = (bytes_eq-Decides y x).0 e in
    or_rest (bytes_eq y z) (is_among z ys) (ap (λ w. bytes_eq w z) same ∙ ne) h
kept_by z x y ys false ne e k h = or_kept (bytes_eq y z) (is_among z ys) (is_among z (removed x ys)) k h

kept : (z x : List ℕ) (ys : List (List ℕ)) → bytes_eq x z ≡ false → is_among z ys ≡ true → is_among z (removed x ys) ≡ true
kept z x [] ne h = cc
kept z x (y ∷ ys) ne h = kept_by z x y ys (bytes_eq y x) ne refl (kept z x ys ne) h

all_kept : (x : List ℕ) (zs ys : List (List ℕ)) → is_among x zs ≡ false → list_all (λ n. is_among n ys) zs ≡ true
    → list_all (λ n. is_among n (removed x ys)) zs ≡ true
all_kept x [] ys ne h = refl
all_kept x (z ∷ zs) ys ne h =
    let n = neither (bytes_eq z x) (is_among x zs) ne in
    let p = and_parts (is_among z ys) (list_all (λ n. is_among n ys) zs) h in
    λ i. kept z x ys (bytes_eq-sym x z ∙ n.0) p.0 i && all_kept x zs ys n.1 p.1 i

pub pigeons : (xs ys : List (List ℕ)) → are_different xs ≡ true → list_all (λ n. is_among n ys) xs ≡ true → length xs ≤ length ys
pigeons [] ys d h = omega arith
pigeons (x ∷ xs) ys d h =
    let p = and_parts (is_among x ys) (list_all (λ n. is_among n ys) xs) h in
    let q = and_parts (not (is_among x xs)) (are_different xs) d in
    let fewer = pigeons xs (removed x ys) q.1 (all_kept x xs ys (not-true (is_among x xs) q.0) p.1) in
    omega (arith, fewer, length-removed x ys p.0)

-- ---- participants differ

among-snoc : (x n : List ℕ) (ys : List (List ℕ)) → is_among x ys ≡ false → bytes_eq n x ≡ false → is_among x (ys ++ n ∷ []) ≡ false
among-snoc x n [] h ne = λ i. ne i || false
among-snoc x n (y ∷ ys) h ne = let p = neither (bytes_eq y x) (is_among x ys) h in λ i. p.0 i || among-snoc x n ys p.1 ne i

different-snoc : (n : List ℕ) (ys : List (List ℕ)) → are_different ys ≡ true → is_among n ys ≡ false → are_different (ys ++ n ∷ []) ≡ true
different-snoc n [] d h = refl
different-snoc n (y ∷ ys) d h =
    let p = neither (bytes_eq y n) (is_among n ys) h in
    let q = and_parts (not (is_among y ys)) (are_different ys) d in
    λ i. not (among-snoc y n ys (not-true (is_among y ys) q.0) (bytes_eq-sym n y ∙ p.0) i) && different-snoc n ys q.1 p.1 i

added : (b : Bool) (n : List ℕ) (ys : List (List ℕ)) → are_different ys ≡ true → is_among n ys ≡ b → are_different (if b then ys else (ys ++ n ∷ [])) ≡ true
added true n ys d e = d
added false n ys d e = different-snoc n ys d e

pub different_all : (ys new : List (List ℕ)) → are_different ys ≡ true → are_different (add_all ys new) ≡ true
different_all ys [] d = d
different_all ys (n ∷ new) d = different_all (add_new ys n) new (added (is_among n ys) n ys d refl)
