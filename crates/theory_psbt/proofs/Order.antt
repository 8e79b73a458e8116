-- The order of byte strings, and keys that ascend by it.
use Rattle.std.proofs.Common.{◌≡◌, ℕ, ◌<◌, List, [], ◌∷◌, Bool, true, false, refl, sym, subst, ◌∙◌, arith, inl, inr}
use Rattle.std.specs.List.{AllByRecursion}
use Rattle.std.specs.Str.{bytes_eq}
use Rattle.std.proofs.lemmas.Bool.{cases_lt, lt-ltb, le-ltb, eq-eqb, ne_eqb}
use Rattle.std.proofs.lemmas.Slice.Eq.{bytes_eq-Decides}
use Rattle.spec_data.specs.Lists.{is_among, are_different}
use Rattle.spec_tool.specs.Psbt.{is_before, are_ascending}
use Rattle.theory_text.proofs.ListFacts.{and_is, and_left, and_right, or_no, not_no}

-- ---- two byte strings

pub same_bytes : (a b : List ℕ) → bytes_eq a b ≡ true → a ≡ b
same_bytes a b h = (bytes_eq-Decides a b).0 h

pub bytes_same : (a : List ℕ) → bytes_eq a a ≡ true
bytes_same a = (bytes_eq-Decides a a).1 refl

pub not_same : (a b : List ℕ) → (a ≡ b → ⊥) → bytes_eq a b ≡ false
not_same a b differ = by_test (bytes_eq a b) refl
  where
    by_test : (t : Bool) → bytes_eq a b ≡ t → t ≡ false
    by_test true e = absurd (differ (same_bytes a b e))
    by_test false e = refl

-- how two first bytes compare
data Heads (x y : ℕ) : Type 0 where
  below : x < y → Heads x y
  level : x ≡ y → Heads x y
  above : y < x → Heads x y

heads_of : (x y : ℕ) → Heads x y
heads_of x y =
    elim (cases_lt x y) [
      | inl lt ↦ below lt
      | inr le ↦ elim (cases_lt y x) [ inl gt ↦ above gt | inr ge ↦ level (omega arith) ]
    ]

step_below : (x y : ℕ) (xs ys : List ℕ) → x < y → is_before (x ∷ xs) (y ∷ ys) ≡ true
step_below x y xs ys h = rw (lt-ltb x y h) refl

step_level : (x y : ℕ) (xs ys : List ℕ) → x ≡ y → is_before (x ∷ xs) (y ∷ ys) ≡ is_before xs ys
step_level x y xs ys h = rw (le-ltb x y (omega (arith, h)), eq-eqb x y h) refl

step_above : (x y : ℕ) (xs ys : List ℕ) → y < x → is_before (x ∷ xs) (y ∷ ys) ≡ false
step_above x y xs ys h = rw (le-ltb x y (omega arith), ne_eqb x y (λ e. omega (arith, e))) refl

-- none comes before itself
pub before_itself : (a : List ℕ) → is_before a a ≡ false
before_itself [] = refl
before_itself (x ∷ xs) = step_level x x xs xs refl ∙ before_itself xs

pub before_both : (a b : List ℕ) → is_before a b ≡ false → is_before b a ≡ false → a ≡ b
before_both [] [] h k = refl
before_both [] (y ∷ ys) h k = cc
before_both (x ∷ xs) [] h k = cc
before_both (x ∷ xs) (y ∷ ys) h k = by_heads (heads_of x y) (before_both xs ys)
  where
    by_heads : Heads x y → (is_before xs ys ≡ false → is_before ys xs ≡ false → xs ≡ ys) → x ∷ xs ≡ y ∷ ys
    by_heads (below lt) later = let e = step_below x y xs ys lt in absurd cc
    by_heads (level same) later =
        let tails = later (sym (step_level x y xs ys same) ∙ h) (sym (step_level y x ys xs (sym same)) ∙ k) in
        cc
    by_heads (above gt) later = let e = step_below y x ys xs gt in absurd cc

pub before_after : (a b c : List ℕ) → is_before a b ≡ true → is_before b c ≡ true → is_before a c ≡ true
before_after [] [] c h k = absurd cc
before_after [] (y ∷ ys) [] h k = absurd cc
before_after [] (y ∷ ys) (z ∷ zs) h k = refl
before_after (x ∷ xs) [] c h k = absurd cc
before_after (x ∷ xs) (y ∷ ys) [] h k = absurd cc
before_after (x ∷ xs) (y ∷ ys) (z ∷ zs) h k = by_heads (heads_of x y) (heads_of y z) (before_after xs ys zs)
  where
    by_heads : Heads x y → Heads y z → (is_before xs ys ≡ true → is_before ys zs ≡ true → is_before xs zs ≡ true)
        → is_before (x ∷ xs) (z ∷ zs) ≡ true
    by_heads (below p) (below q) later = step_below x z xs zs (omega arith)
    by_heads (below p) (level q) later = step_below x z xs zs (omega arith)
    by_heads (below p) (above q) later = let e = step_above y z ys zs q in absurd cc
    by_heads (level p) (below q) later = step_below x z xs zs (omega arith)
    by_heads (level p) (level q) later =
        step_level x z xs zs (p ∙ q) ∙ later (sym (step_level x y xs ys p) ∙ h) (sym (step_level y z ys zs q) ∙ k)
    by_heads (level p) (above q) later = let e = step_above y z ys zs q in absurd cc
    by_heads (above p) other later = let e = step_above x y xs ys p in absurd cc

pub apart_before : (a b : List ℕ) → is_before a b ≡ true → bytes_eq a b ≡ false
apart_before a b h =
    not_same a b (λ e. let k : is_before a a ≡ true = subst (λ (x : List ℕ). is_before a x ≡ true) (sym e) h in let n = before_itself a in absurd cc)

pub apart_after : (a b : List ℕ) → is_before a b ≡ true → bytes_eq b a ≡ false
apart_after a b h = not_same b a (λ e. let k : is_before a a ≡ true = subst (λ (x : List ℕ). is_before a x ≡ true) e h in let n = before_itself a in absurd cc)

-- ---- keys

-- the key comes before each of the others
abbrev pub Before : List ℕ → List (List ℕ) → Type 0
Before key keys = AllByRecursion (λ (other : List ℕ). is_before key other ≡ true) keys

pub all_before : (a b : List ℕ) (keys : List (List ℕ)) → is_before a b ≡ true → Before b keys → Before a keys
all_before a b [] h k = tt
all_before a b (c ∷ keys) h k = (before_after a b c h k.0, all_before a b keys h k.1)

-- the first of ascending keys comes before the others
pub first_before : (key : List ℕ) (keys : List (List ℕ)) → are_ascending (key ∷ keys) ≡ true → Before key keys
first_before key [] h = tt
first_before key (next ∷ keys) h =
    let here = and_left (is_before key next) (are_ascending (next ∷ keys)) h in
    (here, all_before key next keys here (first_before next keys (and_right (is_before key next) _ h)))

pub others_ascend : (key : List ℕ) (keys : List (List ℕ)) → are_ascending (key ∷ keys) ≡ true → are_ascending keys ≡ true
others_ascend key [] h = refl
others_ascend key (next ∷ keys) h = and_right (is_before key next) _ h

pub ascend_with : (key : List ℕ) (keys : List (List ℕ)) → Before key keys → are_ascending keys ≡ true → are_ascending (key ∷ keys) ≡ true
ascend_with key [] h k = refl
ascend_with key (next ∷ keys) h k = and_is _ _ h.0 k

pub before_absent : (key : List ℕ) (keys : List (List ℕ)) → Before key keys → is_among key keys ≡ false
before_absent key [] h = refl
before_absent key (other ∷ keys) h = or_no _ _ (apart_after key other h.0) (before_absent key keys h.1)

-- keys that ascend are different
pub ascending_different : (keys : List (List ℕ)) → are_ascending keys ≡ true → are_different keys ≡ true
ascending_different [] h = refl
ascending_different (key ∷ keys) h =
    and_is _ _ (not_no _ (before_absent key keys (first_before key keys h))) (ascending_different keys (others_ascend key keys h))
