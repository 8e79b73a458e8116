-- Plain decimals are what numbers are written as, and are read again from.
use Rattle.std.proofs.Common.{◌≡◌, ℕ, zero, suc, ◌<◌, ◌≤◌, ◌^◌, Bool, true, false, List, [], ◌∷◌, length, Option, Some, None}
use Rattle.std.proofs.Common.{refl, sym, ap, subst, ◌∙◌, arith, get_or}
use Rattle.std.specs.Prelude.{◌==◌, ◌&&◌, if◌then◌else◌, nat_lt}
use Rattle.std.specs.Fmt.{decimal}
use Rattle.std.specs.List.{list_all}
use Rattle.std.proofs.lemmas.Bool.{lt-ltb}
use Rattle.std.proofs.lemmas.Bool.Decides.{nat_tests}
use Rattle.std.proofs.lemmas.Fmt.{digits_decimal, digits_value-decimal, decimal-digits_value, decimal_digit, first_decimal}
use Rattle.std.proofs.lemmas.Str.Parse.{IsDigitsTest, FoldsDigits, IsNumeralModel, numerals_by_fold}
use Rattle.spec_data.specs.Digits.{is_digit, value_from, decimal_value, is_plain, below, number_below}
use Rattle.spec_text.specs.Words.{small, amount}
use Rattle.theory_text.proofs.ListFacts.{and_is, and_left, and_right}
use Rattle.theory_text.proofs.Options.{some, some_is, none_some}

-- ---- digits and their value

abbrev pub AllDigits : List ℕ → Type 0
AllDigits digits = list_all is_digit digits ≡ true

digit_from : (c : ℕ) → is_digit c ≡ true → (48 ≤ c) × (c ≤ 57)
digit_from c h = (grind (arith, nat_tests), grind (arith, nat_tests))

digit_to : (c : ℕ) → 48 ≤ c → c ≤ 57 → is_digit c ≡ true
digit_to c h k = grind (arith, nat_tests)

digits_test : IsDigitsTest AllDigits
digits_test = record {
  empty = refl;
  parts = λ c cs h. (digit_from c (and_left _ _ h), and_right (is_digit c) _ h);
  more = λ c cs r h. and_is _ _ (digit_to c r.0 r.1) h;
}

digits_fold : FoldsDigits value_from
digits_fold = record { empty = λ n. refl; more = λ n c cs r. refl }

numerals : IsNumeralModel AllDigits decimal_value
numerals = numerals_by_fold AllDigits digits_test value_from digits_fold

-- a number is written in digits
pub decimal-digits : (n : ℕ) → n < 2 ^ 64 → AllDigits (decimal n)
decimal-digits n h = digits_decimal numerals n h

-- and read again
pub decimal-value : (n : ℕ) → n < 2 ^ 64 → decimal_value (decimal n) ≡ n
decimal-value n h = digits_value-decimal numerals n h

-- ---- plain decimals

record Plain (word : List ℕ) : Type 0 where
  digits : AllDigits word
  some : 0 < length word
  zero_alone : get_or word 0 0 ≡ 48 → length word ≡ 1

zero_first : (b : ℕ) (bytes : List ℕ) → (b == 48) ≡ true → (length bytes == 0) ≡ true → Plain (b ∷ bytes)
zero_first b [] h k = record { digits = and_is _ _ (is_digit_48 b h) refl; some = omega arith; zero_alone = λ e. refl }
  where
    is_digit_48 : (b : ℕ) → (b == 48) ≡ true → is_digit b ≡ true
    is_digit_48 b h = grind (arith, nat_tests)
zero_first b (c ∷ bytes) h k = absurd (not_zero (length bytes) k)
  where
    not_zero : (n : ℕ) → (suc n == 0) ≡ true → ⊥
    not_zero n h = grind (arith, nat_tests)

plain_by : (b : ℕ) (bytes : List ℕ) (t : Bool) → (b == 48) ≡ t → (if t then length bytes == 0 else is_digit b && list_all is_digit bytes)
    ≡ true → Plain (b ∷ bytes)
plain_by b bytes true e h = zero_first b bytes e h
plain_by b bytes false e h = record { digits = h; some = omega arith; zero_alone = λ i. absurd (no_48 b e i) }
  where
    no_48 : (b : ℕ) → (b == 48) ≡ false → b ≡ 48 → ⊥
    no_48 b h i = grind (arith, nat_tests)

plain_is : (word : List ℕ) → is_plain word ≡ true → Plain word
plain_is [] h = absurd cc
plain_is (b ∷ bytes) h = plain_by b bytes (b == 48) refl h

record Below (bound v n : ℕ) : Type 0 where
  less : v < bound
  same : v ≡ n

less_is : (v bound : ℕ) → nat_lt v bound ≡ true → v < bound
less_is v bound h = grind (arith, nat_tests)

below_is : (t : Bool) (bound v n : ℕ) → (t ≡ true → v < bound) → (if t then some v else None) ≡ some n → Below bound v n
below_is true bound v n f h = record { less = f refl; same = some_is v n h }
below_is false bound v n f h = absurd (none_some n h)

pub record Guarded {A : Type 0} (t : Bool) (later : Option A) (x : A) : Type 0 where
  pub holds : t ≡ true
  pub then' : later ≡ some x

pub guarded : {A : Type 0} (t : Bool) (later : Option A) (x : A) → (if t then later else None) ≡ some x → Guarded t later x
guarded true later x h = record { holds = refl; then' = h }
guarded false later x h = absurd (none_some x h)

-- the word that a number is read from is what the number is written as
pub number_word : (bound : ℕ) (word : List ℕ) (n : ℕ) → bound ≤ 2 ^ 64 → number_below bound word ≡ some n → decimal n ≡ word
number_word bound word n small h =
    let g = guarded (is_plain word) (below bound (decimal_value word)) n h in
    let b = below_is (nat_lt (decimal_value word) bound) bound (decimal_value word) n (less_is (decimal_value word) bound) g.then' in
    let p = plain_is word g.holds in
    ap decimal (sym b.same) ∙ decimal-digits_value numerals word p.digits p.some p.zero_alone (omega (arith, b.less))

-- and it is below the bound
pub number_less : (bound : ℕ) (word : List ℕ) (n : ℕ) → number_below bound word ≡ some n → n < bound
number_less bound word n h =
    let g = guarded (is_plain word) (below bound (decimal_value word)) n h in
    let b = below_is (nat_lt (decimal_value word) bound) bound (decimal_value word) n (less_is (decimal_value word) bound) g.then' in
    omega (arith, b.less, b.same)

-- ---- numbers read again

plain_zero : is_plain (48 ∷ []) ≡ true
plain_zero = refl

plain_digits : (digits : List ℕ) → AllDigits digits → 48 < get_or digits 0 0 → is_plain digits ≡ true
plain_digits [] h first = absurd (omega arith)
plain_digits (b ∷ bytes) h first = rw (above b first) h
  where
    above : (b : ℕ) → 48 < b → (b == 48) ≡ false
    above b h = grind (arith, nat_tests)

plain_decimal : (n : ℕ) → n < 2 ^ 64 → is_plain (decimal n) ≡ true
plain_decimal zero h = subst (λ (digits : List ℕ). is_plain digits ≡ true) (sym (decimal_digit 0 (omega arith))) plain_zero
plain_decimal (suc n) h = plain_digits (decimal (suc n)) (decimal-digits (suc n) h) (first_decimal (suc n) (omega arith) h)

number_back : (bound n : ℕ) → n < bound → n < 2 ^ 64 → number_below bound (decimal n) ≡ Some n
number_back bound n less small = rw (plain_decimal n small, decimal-value n small, lt-ltb n bound less) refl

pub small_back : (n : ℕ) → n < 2 ^ 32 → small (decimal n) ≡ Some n
small_back n h = number_back (2 ^ 32) n h (omega arith)

pub amount_back : (n : ℕ) → n < 2 ^ 64 → amount (decimal n) ≡ Some n
amount_back n h = number_back (2 ^ 64) n h h
