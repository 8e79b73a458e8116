-- A decimal number is written in digits.
use Rattle.std.proofs.Common.{◌≡◌, ℕ, zero, suc, ◌+◌, ◌/◌, ◌%◌, ◌<◌, ◌≤◌, List, [], ◌∷◌, Bool, true, false, refl, arith}
use Rattle.std.specs.Prelude.{◌==◌, nat_lt, if◌then◌else◌}
use Rattle.std.specs.Fmt.{decimal, digits, digits_onto, digit_glyph}
use Rattle.std.specs.List.{list_all}
use Rattle.std.proofs.lemmas.Bool.{lt-ltb}
use Rattle.std.proofs.lemmas.Bool.Decides.{nat_tests}
use Rattle.spec_data.specs.Digits.{is_digit}
use Rattle.theory_text.proofs.ListFacts.{and_is}

abbrev pub AllDigits : List ℕ → Type 0
AllDigits bytes = list_all is_digit bytes ≡ true

pub digit_from : (c : ℕ) → is_digit c ≡ true → (48 ≤ c) × (c ≤ 57)
digit_from c h = (grind (arith, nat_tests), grind (arith, nat_tests))

digit_to : (c : ℕ) → 48 ≤ c → c ≤ 57 → is_digit c ≡ true
digit_to c h k = grind (arith, nat_tests)

glyph_is_digit : (d : ℕ) → d < 10 → is_digit (digit_glyph false d) ≡ true
glyph_is_digit d h =
    let e : nat_lt d 10 ≡ true = lt-ltb d 10 h in
    rw e (digit_to (48 + d) (omega (arith, h)) (omega (arith, h)))

one_more : (n : ℕ) (bytes : List ℕ) → AllDigits bytes → AllDigits (digit_glyph false (n % 10) ∷ bytes)
one_more n bytes h = and_is _ _ (glyph_is_digit (n % 10) (omega arith)) h

by_rest : (t : Bool) (here later : List ℕ) → AllDigits here → AllDigits later → AllDigits (if t then here else later)
by_rest true here later h k = h
by_rest false here later h k = k

digits_are : (k n : ℕ) (bytes : List ℕ) → AllDigits bytes → AllDigits (digits_onto k 10 false n bytes)
digits_are zero n bytes h = h
digits_are (suc k) n bytes h =
    let more = digit_glyph false (n % 10) ∷ bytes in
    by_rest (n / 10 == 0) more (digits_onto k 10 false (n / 10) more) (one_more n bytes h) (digits_are k (n / 10) more (one_more n bytes h))

pub decimal_digits : (n : ℕ) → AllDigits (decimal n)
unfolding digits
decimal_digits n = digits_are 64 n [] refl
