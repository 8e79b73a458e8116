-- Numbers as pieces of text.
use Rattle.std.proofs.Common.{◌≡◌, ℕ, zero, suc, ◌<◌, ◌^◌, true, false, List, [], ◌∷◌, ◌++◌, length, Option, Some, refl, sym, ap, subst, ◌∙◌, arith, get_or}
use Rattle.std.specs.Prelude.{◌==◌, if◌then◌else◌, nat_lt}
use Rattle.std.specs.Fmt.{decimal}
use Rattle.std.specs.List.{list_all}
use Rattle.std.proofs.lemmas.Bool.Decides.{nat_tests}
use Rattle.std.proofs.lemmas.Fmt.{decimal_digit, first_decimal}
use Rattle.spec_data.specs.Digits.{is_digit, decimal_value}
use Rattle.spec_terms.specs.Readable.{is_letter}
use Rattle.spec_text.specs.declared.token.Kind.{Kind}
use Rattle.spec_text.specs.declared.token.Kind.TheVariants as kind
use Rattle.spec_text.specs.declared.lexeme.Lexeme.TheVariants.{Number as number}
use Rattle.spec_text.specs.Lexis.{is_blank, number_kind, Prefix, number_prefix, prefix}
use Rattle.theory_text.proofs.ListFacts.{and_left, and_right, or_left, or_right}
use Rattle.theory_text.proofs.Lines.Decimals.{AllDigits, decimal-digits, decimal-value}
use Rattle.theory_text.proofs.Runs.{Stops, run_append}
use Rattle.theory_text.proofs.Printed.Pieces.{says_token, Ends, Piece}

name_byte_no_digit : (rest : List ℕ) → Ends rest → Stops is_digit rest
name_byte_no_digit [] h = tt
name_byte_no_digit (b ∷ rest) h = or_left (is_digit b) _ (or_right (is_letter b) _ h)

abbrev some_prefix : Kind → ℕ → Option Prefix
some_prefix k n = Some (k, n)

number_at_prefix : (b : ℕ) (more rest : List ℕ) → list_all is_digit more ≡ true → Ends rest → number_prefix b (more ++ rest)
    ≡ (number_kind (b ∷ more), length more)
unfolding number_prefix
number_at_prefix b more rest h ends =
    ap (λ (run : List ℕ). let f : Prefix = (number_kind (b ∷ run), length run) in f) (run_append is_digit more rest h (name_byte_no_digit rest ends))

prefix_digit : (b : ℕ) (bytes : List ℕ) → is_letter b ≡ false → (b == 48) ≡ false → is_digit b ≡ true → prefix b bytes ≡ Some (number_prefix b bytes)
prefix_digit b bytes h i j = rw (h, i, j) refl

number_kind-is : (n : ℕ) (digits : List ℕ) → decimal_value digits ≡ n → n < 2 ^ 64 → number_kind digits ≡ kind.Number n
number_kind-is n digits is small =
    let yes : nat_lt n (2 ^ 64) ≡ true = grind (arith, nat_tests) in
    ap (λ (m : ℕ). if nat_lt m (2 ^ 64) then kind.Number m else kind.HugeNumber) is ∙ rw yes refl

-- digits that don't begin with 0
positive : (n : ℕ) (digits : List ℕ) → n < 2 ^ 64 → AllDigits digits → decimal_value digits ≡ n → 48 < get_or digits 0 0 → Piece digits (number n ∷ [])
positive n [] small is value first = absurd (omega arith)
positive n (b ∷ more) small is value first =
    let digit : is_digit b ≡ true = and_left _ _ is in
    let no_letter : is_letter b ≡ false = digit_no_letter b digit in
    let no_zero : (b == 48) ≡ false = above_zero b first in
    let read : (rest : List ℕ) → Ends rest → prefix b (more ++ rest) ≡ some_prefix (kind.Number n) (length more) = λ rest ends.
    prefix_digit b (more ++ rest) no_letter no_zero digit
    ∙ (ap (λ (f : Prefix). Some f) (number_at_prefix b more rest (and_right (is_digit b) _ is) ends)
    ∙ ap (λ (k : Kind). some_prefix k (length more)) (number_kind-is n (b ∷ more) value small)) in
    record { says = λ rest later ends l. says_token b more rest (kind.Number n) (number n) later (digit_no_blank b digit) (read rest ends) refl l }
  where
    digit_no_letter : (b : ℕ) → is_digit b ≡ true → is_letter b ≡ false
    digit_no_letter b h = grind (arith, nat_tests)

    above_zero : (b : ℕ) → 48 < b → (b == 48) ≡ false
    above_zero b h = grind (arith, nat_tests)

    digit_no_blank : (b : ℕ) → is_digit b ≡ true → is_blank b ≡ false
    digit_no_blank b h = grind (arith, nat_tests)

zero_digit : Piece (48 ∷ []) (number 0 ∷ [])
zero_digit = record { says = λ rest later ends l. says_token 48 [] rest (kind.Number 0) (number 0) later refl refl refl l }

pub number_piece : (n : ℕ) → n < 2 ^ 64 → Piece (decimal n) (number n ∷ [])
number_piece zero h = subst (λ (digits : List ℕ). Piece digits (number 0 ∷ [])) (sym (decimal_digit 0 (omega arith))) zero_digit
number_piece (suc n) h = positive (suc n) (decimal (suc n)) h (decimal-digits (suc n) h) (decimal-value (suc n) h) (first_decimal (suc n) (omega arith) h)
