-- Plain decimals: digits that are read one by one, and what is written of a number.
use Rattle.std.proofs.Common.{◌≡◌, ℕ, zero, suc, ◌+◌, ◌-◌, ◌*◌, ◌<◌, ◌≤◌, ◌^◌, List, [], ◌∷◌, length, true, Some, None, refl, ap, ◌∙◌, arith, drop, get_or}
use Rattle.std.specs.List.{list_all}
use Rattle.std.specs.Fmt.{decimal}
use Rattle.std.proofs.Math.Seq.{drop-cons}
use Rattle.std.proofs.lemmas.Bool.{le-ltb, lt-ltb, ne_eqb}
use Rattle.std.proofs.lemmas.Str.Parse.{IsNumeralModel, numerals_by_fold, tells_all_ascii_digits}
use Rattle.std.proofs.lemmas.Fmt.{digits_decimal, digits_value-decimal, first_decimal, decimal_nonempty, decimal_digit}
use Rattle.spec_data.specs.Digits.{is_digit, is_plain, value_from, decimal_value, below, read_decimal}

-- a value that is too great stays so
pub below-great : (bound value : ℕ) (bytes : List ℕ) → bound ≤ value → below bound (value_from value bytes) ≡ None
below-great bound value [] h = rw (le-ltb value bound h) refl
below-great bound value (b ∷ bytes) h = below-great bound (value * 10 + (b - 48)) bytes (omega arith)

-- a value that grows too great with the next digit
pub below-next : (bound value : ℕ) (bytes : List ℕ) (i : ℕ) → i < length bytes → bound ≤ value * 10 + (get_or bytes i 0 - 48)
    → below bound (value_from value (drop i bytes)) ≡ None
below-next bound value bytes i less h =
    ap (λ bs. below bound (value_from value bs)) (drop-cons bytes i 0 less)
    ∙ below-great bound (value * 10 + (get_or bytes i 0 - 48)) (drop (suc i) bytes) h

-- the words here are those of decimals in general
decimals : IsNumeralModel (λ ds. list_all is_digit ds ≡ true) decimal_value
decimals = numerals_by_fold (λ ds. list_all is_digit ds ≡ true) tells_all_ascii_digits value_from (record { empty = λ n. refl; more = λ n c cs h. refl })

first_is_plain : (ds : List ℕ) → list_all is_digit ds ≡ true → 0 < length ds → 48 < get_or ds 0 0 → is_plain ds ≡ true
first_is_plain [] all some first = absurd (omega arith)
first_is_plain (d ∷ ds) all some first = rw (ne_eqb d 48 (λ e. omega arith)) all

-- what is written of a number reads as that number
pub read_decimal-decimal : (n : ℕ) → n < 2 ^ 64 → read_decimal (decimal n) ≡ Some n
read_decimal-decimal zero h = rw (decimal_digit 0 (omega arith)) refl
read_decimal-decimal (suc n) h =
    let all = digits_decimal decimals (suc n) h in
    let plain : is_plain (decimal (suc n)) ≡ true = first_is_plain (decimal (suc n)) all (decimal_nonempty (suc n) h) (first_decimal (suc n) (omega arith) h) in
    let value : decimal_value (decimal (suc n)) ≡ suc n = digits_value-decimal decimals (suc n) h in
    rw (plain, value, lt-ltb (suc n) (2 ^ 64) h) refl
