-- Strings that tell numbers and byte strings apart; what is found by them.
use Rattle.std.proofs.Common.{◌≡◌, ℕ, ◌<◌, ◌^◌, List, [], ◌∷◌, ◌++◌, length, map, Bool, true, false, cond, Some}
use Rattle.std.proofs.Common.{refl, sym, ap, ◌∙◌, arith}
use Rattle.std.specs.Prelude.{◌&&◌, ◌||◌, ◌==◌, option_map, is_some}
use Rattle.std.specs.List.{find, list_all, list_any}
use Rattle.std.specs.Int.{w32, from_le_bytes}
use Rattle.std.specs.Str.{bytes_eq}
use Rattle.std.proofs.lemmas.Bool.{and_parts}
use Rattle.std.proofs.lemmas.Nat.{from_le_bytes-to_le_bytes_4}
use Rattle.std.proofs.lemmas.Slice.Eq.{bytes_eq-Decides}
use Rattle.spec_bitcoin.specs.Spelling.{word}

-- what passes one test passes another that is the same of whatever is sized
pub find_by : {T : Type 0} (p test ok : T → Bool) → ((x : T) → ok x ≡ true → p x ≡ test x) → (xs : List T) → list_all ok xs ≡ true
    → find p xs ≡ find test xs
find_by p test ok same [] all = refl
find_by p test ok same (x ∷ xs) all =
    let parts = and_parts (ok x) (list_all ok xs) all in
    ap (λ b. cond b (Some x) (find p xs)) (same x parts.0) ∙ ap (λ o. cond (test x) (Some x) o) (find_by p test ok same xs parts.1)

and_assoc : (a b c : Bool) → (a && (b && c)) ≡ ((a && b) && c)
and_assoc true b c = refl
and_assoc false b c = refl

-- two strings behind strings of one length
pub same_behind : (k l s t : List ℕ) → length k ≡ length l → bytes_eq (k ++ s) (l ++ t) ≡ (bytes_eq k l && bytes_eq s t)
same_behind [] [] s t e = refl
same_behind [] (y ∷ l) s t e = absurd (omega (arith, e))
same_behind (x ∷ k) [] s t e = absurd (omega (arith, e))
same_behind (x ∷ k) (y ∷ l) s t e =
    let e' : length k ≡ length l = omega (arith, e) in
    ap (λ b. (x == y) && b) (same_behind k l s t e') ∙ and_assoc (x == y) (bytes_eq k l) (bytes_eq s t)

length_word : (n : ℕ) → length (word n) ≡ 4
length_word n = refl

same_number : (m n : ℕ) → m < 2 ^ 32 → n < 2 ^ 32 → word m ≡ word n → m ≡ n
same_number m n h k e =
    sym (from_le_bytes-to_le_bytes_4 m h) ∙ ap (from_le_bytes w32) e ∙ from_le_bytes-to_le_bytes_4 n k

same_word : (m n : ℕ) → m < 2 ^ 32 → n < 2 ^ 32 → bytes_eq (word m) (word n) ≡ (m == n)
same_word m n h k = by (bytes_eq (word m) (word n)) refl (m == n) refl
  where
    by : (a : Bool) → bytes_eq (word m) (word n) ≡ a → (b : Bool) → (m == n) ≡ b → a ≡ b
    by true e true f = refl
    by false e false f = refl
    by true e false f =
        let same : m ≡ n = same_number m n h k ((bytes_eq-Decides (word m) (word n)).0 e) in
        absurd (grind arith)
    by false e true f =
        let same : m ≡ n = grind arith in
        sym e ∙ (bytes_eq-Decides (word m) (word n)).1 (ap word same)

-- two strings behind numbers
pub same_numbered : (m n : ℕ) (s t : List ℕ) → m < 2 ^ 32 → n < 2 ^ 32 → bytes_eq (word m ++ s) (word n ++ t) ≡ ((m == n) && bytes_eq s t)
same_numbered m n s t h k = same_behind (word m) (word n) s t refl ∙ ap (λ b. b && bytes_eq s t) (same_word m n h k)

-- ---- what is found in a list

pub find_map : {A B : Type 0} (f : A → B) (p : B → Bool) (xs : List A) → find p (map f xs) ≡ option_map f (find (λ x. p (f x)) xs)
find_map f p [] = refl
find_map f p (x ∷ xs) = by_test (p (f x)) (find_map f p xs)
  where
    by_test : (b : Bool) → find p (map f xs) ≡ option_map f (find (λ x. p (f x)) xs)
        → cond b (Some (f x)) (find p (map f xs)) ≡ option_map f (cond b (Some x) (find (λ x. p (f x)) xs))
    by_test true h = refl
    by_test false h = h

pub find_alike : {A : Type 0} (p q : A → Bool) → ((x : A) → p x ≡ q x) → (xs : List A) → find p xs ≡ find q xs
find_alike p q same [] = refl
find_alike p q same (x ∷ xs) =
    ap (λ b. cond b (Some x) (find p xs)) (same x) ∙ ap (λ o. cond (q x) (Some x) o) (find_alike p q same xs)

pub any_found : {A : Type 0} (p : A → Bool) (xs : List A) → list_any p xs ≡ is_some (find p xs)
any_found p [] = refl
any_found p (x ∷ xs) = by_test (p x) (any_found p xs)
  where
    by_test : (b : Bool) → list_any p xs ≡ is_some (find p xs) → (b || list_any p xs) ≡ is_some (cond b (Some x) (find p xs))
    by_test true h = refl
    by_test false h = h
