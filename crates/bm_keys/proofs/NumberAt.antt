-- Numbers at the front of a text.
use Rattle.std.proofs.Common.{◌≡◌, ℕ, suc, ◌+◌, ◌<◌, ◌≤◌, ◌^◌, List, [], ◌∷◌, ◌++◌, length, take, drop, Bool, true, false, Some, None, refl, sym, ap, subst, ◌∙◌, arith}
use Rattle.std.specs.Prelude.{◌&&◌, ◌==◌, if◌then◌else◌, nat_lt, get_or}
use Rattle.std.specs.List.{list_all}
use Rattle.std.specs.Fmt.{decimal}
use Rattle.std.proofs.lemmas.Fmt.{decimal-digits_value}
use Rattle.std.proofs.lemmas.List.{take-append-drop}
use Rattle.std.proofs.lemmas.Bool.{lt-ltb}
use Rattle.std.proofs.lemmas.Bool.Decides.{nat_tests}
use Rattle.spec_data.specs.Digits.{is_digit, is_plain, decimal_value, below, number_below}
use Rattle.spec_bitcoin.proofs.StepLemmas.{decimals, decimal_digits, two_decimals}
use Rattle.bm_text.proofs.DecimalLemmas.{read_decimal-decimal}
use Rattle.bm_keys.specs.Pieces.{digit_count, Ends, IsNumberAt, NoNumberAt}

-- ---- a word that is a number

less-some : (t : Bool) (bound v n : ℕ) → nat_lt v bound ≡ t → (if t then Some v else None) ≡ Some n → (v ≡ n) × (n < bound)
less-some true bound v n e k = let same : v ≡ n = cc in (same, grind (arith, nat_tests))
less-some false bound v n e k = cc

-- what a number below a bound says of the test and the value
below-some : (b : Bool) (bound v n : ℕ) → (if b then below bound v else None) ≡ Some n → (b ≡ true) × (v ≡ n) × (n < bound)
below-some true bound v n h = let r = less-some (nat_lt v bound) bound v n refl h in (refl, r.0, r.1)
below-some false bound v n h = cc

Plain : List ℕ → Type 0
Plain word = (list_all is_digit word ≡ true) × (0 < length word) × (get_or word 0 0 ≡ 48 → length word ≡ 1)

plain-zero : (b : ℕ) (bytes : List ℕ) → b ≡ 48 → length bytes ≡ 0 → Plain (b ∷ bytes)
unfolding Plain
plain-zero b [] e h = (rw e refl, omega arith, λ s. refl)
plain-zero b (c ∷ bytes) e h = absurd (omega (arith, h))

plain-first : (t : Bool) (b : ℕ) (bytes : List ℕ) → (b == 48) ≡ t → (if t then length bytes == 0 else is_digit b && list_all is_digit bytes)
    ≡ true → Plain (b ∷ bytes)
unfolding Plain
plain-first true b bytes e k = plain-zero b bytes (grind (arith, nat_tests)) (grind (arith, nat_tests))
plain-first false b bytes e k = (k, omega arith, λ s. grind (arith, nat_tests))

plain-digits : (word : List ℕ) → is_plain word ≡ true → Plain word
plain-digits [] h = cc
plain-digits (b ∷ bytes) h = plain-first (b == 48) b bytes refl h

pub number-some : (word : List ℕ) (n : ℕ) → number_below (2 ^ 32) word ≡ Some n → (word ≡ decimal n) × (n < 2 ^ 32)
unfolding Plain
number-some word n h =
    let b = below-some (is_plain word) (2 ^ 32) (decimal_value word) n h in
    let p = plain-digits word b.0 in
    let small : decimal_value word < 2 ^ 64 = omega (arith, b.1, b.2) in
    (sym (decimal-digits_value decimals word p.0 p.1 p.2 small) ∙ ap decimal b.1, b.2)

number-of-read : (b : Bool) (v n : ℕ) → (if b then below (2 ^ 64) v else None) ≡ Some n → n < 2 ^ 32 → (if b then below (2 ^ 32) v else None) ≡ Some n
number-of-read b v n h small =
    let c = below-some b (2 ^ 64) v n h in
    rw (c.0, c.1, lt-ltb n (2 ^ 32) small) refl

pub number-decimal : (n : ℕ) → n < 2 ^ 32 → number_below (2 ^ 32) (decimal n) ≡ Some n
number-decimal n h = number-of-read (is_plain (decimal n)) (decimal_value (decimal n)) n (read_decimal-decimal n (omega (arith, h))) h

-- ---- the digits that a text begins with

within-test : (t : Bool) (n : ℕ) (b : ℕ) (bytes : List ℕ) → n ≤ length bytes → (if t then n + 1 else 0) ≤ length (b ∷ bytes)
within-test true n b bytes h = omega (arith, h)
within-test false n b bytes h = omega arith

pub count_within : (text : List ℕ) → digit_count text ≤ length text
count_within [] = omega arith
count_within (b ∷ bytes) = within-test (is_digit b) (digit_count bytes) b bytes (count_within bytes)

ends-test : (t : Bool) (n b : ℕ) (bytes : List ℕ) → is_digit b ≡ t → Ends (drop n bytes) → Ends (drop (if t then n + 1 else 0) (b ∷ bytes))
ends-test true n b bytes e h = let k : suc n ≡ n + 1 = omega arith in subst (λ (m : ℕ). Ends (drop m (b ∷ bytes))) k h
ends-test false n b bytes e h = e

ends_behind : (text : List ℕ) → Ends (drop (digit_count text) text)
ends_behind [] = tt
ends_behind (b ∷ bytes) = ends-test (is_digit b) (digit_count bytes) b bytes refl (ends_behind bytes)

append-test : (t : Bool) (n k : ℕ) (rest : Bool) → (t && rest) ≡ true → (rest ≡ true → n ≡ k) → (if t then n + 1 else 0) ≡ k + 1
append-test true n k rest h f = ap (λ m. m + 1) (f h)
append-test false n k rest h f = cc

count-append : (ds x : List ℕ) → list_all is_digit ds ≡ true → Ends x → digit_count (ds ++ x) ≡ length ds
count-append [] [] h f = refl
count-append [] (c ∷ x) h f = rw f refl
count-append (d ∷ ds) x h f =
    let r = append-test (is_digit d) (digit_count (ds ++ x)) (length ds) (list_all is_digit ds) h (λ k. count-append ds x k f) in
    omega (arith, r)

take-length : (ds x : List ℕ) → take (length ds) (ds ++ x) ≡ ds
take-length [] x = refl
take-length (d ∷ ds) x = ap (λ l. d ∷ l) (take-length ds x)

drop-length : (ds x : List ℕ) → drop (length ds) (ds ++ x) ≡ x
drop-length [] x = refl
drop-length (d ∷ ds) x = drop-length ds x

-- the digits of a number at the front, and what stands behind them
pub prefix : (text rest : List ℕ) (n : ℕ) → IsNumberAt text n rest → (take (digit_count text) text ≡ decimal n) × (drop (digit_count text) text ≡ rest)
prefix text rest n h =
    let count : digit_count (decimal n ++ rest) ≡ length (decimal n) = count-append (decimal n) rest (decimal_digits n h.fits) h.ends in
    let taken : take (digit_count (decimal n ++ rest)) (decimal n ++ rest) ≡ decimal n = ap (λ k. take k (decimal n ++ rest)) count ∙ take-length (decimal n) rest in
    let left : drop (digit_count (decimal n ++ rest)) (decimal n ++ rest) ≡ rest = ap (λ k. drop k (decimal n ++ rest)) count ∙ drop-length (decimal n) rest in
    (ap (λ l. take (digit_count l) l) h.same ∙ taken, ap (λ l. drop (digit_count l) l) h.same ∙ left)

-- a text begins with one number
pub one_number : (text r s : List ℕ) (m n : ℕ) → IsNumberAt text m r → IsNumberAt text n s → (m ≡ n) × (r ≡ s)
one_number text r s m n h k = two_decimals m n r s h.fits k.fits h.ends k.ends (sym h.same ∙ k.same)

pub number_is : (text digits rest : List ℕ) (n : ℕ) → digits ≡ take (digit_count text) text → rest ≡ drop (digit_count text) text
    → number_below (2 ^ 32) digits ≡ Some n → IsNumberAt text n rest
number_is text digits rest n d e h =
    let w = number-some digits n h in
    record {
      fits = w.1;
      same = sym (take-append-drop (digit_count text) text) ∙ ap (λ l. l ++ drop (digit_count text) text) (sym d ∙ w.0) ∙ ap (λ l. decimal n ++ l) (sym e);
      ends = subst Ends (sym e) (ends_behind text);
    }

some_none : (n : ℕ) → Some n ≡ None → ⊥
some_none n e = cc

pub no_number : (text digits : List ℕ) → digits ≡ take (digit_count text) text → number_below (2 ^ 32) digits ≡ None → NoNumberAt text
no_number text digits d h n rest k =
    let w : number_below (2 ^ 32) digits ≡ Some n = ap (number_below (2 ^ 32)) (d ∙ (prefix text rest n k).0) ∙ number-decimal n k.fits in
    some_none n (sym w ∙ h)
