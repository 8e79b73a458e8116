-- The names of the made secrets: contract text may have them, and they are different.
use Rattle.std.proofs.Common.{◌≡◌, ℕ, suc, ◌<◌, ◌≤◌, ◌^◌, Bool, true, false, List, [], ◌∷◌, length, refl, arith}
use Rattle.std.specs.Prelude.{◌==◌}
use Rattle.std.specs.Fmt.{decimal}
use Rattle.std.specs.List.{list_all}
use Rattle.std.specs.Str.{bytes_eq}
use Rattle.std.proofs.lemmas.Bool.Decides.{nat_tests}
use Rattle.std.proofs.lemmas.Fmt.{length-decimal-le, decimal_injective}
use Rattle.std.proofs.lemmas.Slice.Eq.{bytes_eq-Decides}
use Rattle.spec_data.specs.Digits.{is_digit}
use Rattle.spec_data.specs.Lists.{is_among}
use Rattle.spec_terms.specs.Readable.{is_name_byte, keywords, is_name}
use Rattle.spec_text.specs.Generator.{secret_name}
use Rattle.theory_text.proofs.ListFacts.{and_is, and_left, and_right, not_no}
use Rattle.theory_text.proofs.Lines.Decimals.{decimal-digits}
use Rattle.theory_text.proofs.Within.ReadWithin.{le_yes}

-- ---- contract text may have them

digit_name : (b : ℕ) → is_digit b ≡ true → is_name_byte b ≡ true
digit_name b h = grind (arith, nat_tests)

digits_name : (digits : List ℕ) → list_all is_digit digits ≡ true → list_all is_name_byte digits ≡ true
digits_name [] h = refl
digits_name (b ∷ bytes) h = and_is _ _ (digit_name b (and_left _ _ h)) (digits_name bytes (and_right (is_digit b) _ h))

no_letter : (b c : ℕ) → 57 < c → is_digit b ≡ true → (c == b) ≡ false
no_letter b c more h = grind (arith, nat_tests)

no_keyword : (digits : List ℕ) → list_all is_digit digits ≡ true → is_among (97 ∷ digits) keywords ≡ false
no_keyword [] h = refl
no_keyword (b ∷ bytes) h = rw (no_letter b 102 (omega arith) (and_left _ _ h), no_letter b 110 (omega arith) (and_left _ _ h)) refl

name_of_digits : (digits : List ℕ) → list_all is_digit digits ≡ true → length digits ≤ 31 → is_name (97 ∷ digits) ≡ true
unfolding is_name
name_of_digits digits h few =
    and_is _ _ (digits_name digits h) (and_is _ _ (le_yes (suc (length digits)) 32 (omega (arith, few))) (not_no _ (no_keyword digits h)))

pub secret_named : (j : ℕ) → j < 1000 → is_name (secret_name j) ≡ true
secret_named j h =
    let small : j < 2 ^ 64 = omega arith in
    name_of_digits (decimal j) (decimal-digits j small) (omega (arith, length-decimal-le 3 j (omega arith) h small))

-- ---- they are short and different

pub secret_short : (j : ℕ) → j < 1000 → length (secret_name j) ≤ 4
secret_short j h = omega (arith, length-decimal-le 3 j (omega arith) h (omega arith))

tails_same : (xs ys : List ℕ) → 97 ∷ xs ≡ 97 ∷ ys → xs ≡ ys
tails_same xs ys h = cc

not_same : (xs ys : List ℕ) (t : Bool) → bytes_eq xs ys ≡ t → (xs ≡ ys → ⊥) → bytes_eq xs ys ≡ false
not_same xs ys true e f = absurd (f ((bytes_eq-Decides xs ys).0 e))
not_same xs ys false e f = e

pub names_apart : (i j : ℕ) → i < 1000 → j < 1000 → (i ≡ j → ⊥) → bytes_eq (secret_name i) (secret_name j) ≡ false
names_apart i j h k f =
    not_same (secret_name i) (secret_name j) (bytes_eq (secret_name i) (secret_name j)) refl
    (λ same. f (decimal_injective i j (omega arith) (omega arith) (tails_same (decimal i) (decimal j) same)))

pub same_name : (name : List ℕ) → bytes_eq name name ≡ true
same_name name = (bytes_eq-Decides name name).1 refl
