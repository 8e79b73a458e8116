-- Which words may stand in a line, by a test.
use Rattle.std.proofs.Common.{◌≡◌, ℕ, ◌<◌, ◌≤◌, ◌^◌, Bool, true, List, [], ◌∷◌, length}
use Rattle.std.proofs.Common.{refl, arith}
use Rattle.std.specs.Prelude.{◌&&◌, not, nat_le, if◌then◌else◌}
use Rattle.std.specs.Fmt.{decimal}
use Rattle.std.specs.List.{list_all, AllByRecursion}
use Rattle.std.proofs.lemmas.Bool.{le-ltb}
use Rattle.spec_text.specs.Limits.{most_line_bytes}
use Rattle.spec_text.specs.Lines.{is_space}
use Rattle.spec_text.specs.RunFile.{is_long}
use Rattle.theory_text.proofs.ListFacts.{and_left, and_right, not_yes}
use Rattle.theory_text.proofs.Lines.LineBytes.{ends_line, LineWord, decimal_line}
use Rattle.theory_text.proofs.Lines.Separated.{Lacks}
use Rattle.theory_text.proofs.Printed.Tests.{le_is}

-- ---- words

pub lacks_by : (test : ℕ → Bool) (bytes : List ℕ) → list_all (λ b. not (test b)) bytes ≡ true → Lacks test bytes
lacks_by test [] h = tt
lacks_by test (b ∷ bytes) h = (not_yes _ (and_left _ _ h), lacks_by test bytes (and_right (not (test b)) _ h))

abbrev pub is_line_word : List ℕ → Bool
is_line_word word = nat_le 1 (length word) && (list_all (λ b. not (is_space b)) word && list_all (λ b. not (ends_line b)) word)

pub line_word : (word : List ℕ) → is_line_word word ≡ true → LineWord word
line_word word h =
    let bytes = and_right (nat_le 1 (length word)) _ h in
    record {
      is = record { some = le_is 1 (length word) (and_left _ _ h); lacks = lacks_by is_space word (and_left _ _ bytes) };
      ends = lacks_by ends_line word (and_right (list_all (λ b. not (is_space b)) word) _ bytes);
    }

pub all_line_words : (words : List (List ℕ)) → list_all is_line_word words ≡ true → AllByRecursion LineWord words
all_line_words [] h = tt
all_line_words (word ∷ words) h = (line_word word (and_left _ _ h), all_line_words words (and_right (is_line_word word) _ h))

-- a short line is read by its words
pub not_long : {A : Type 0} (line : List ℕ) (long said : A) → length line ≤ 100 → (if is_long line then long else said) ≡ said
not_long line long said h = rw (le-ltb most_line_bytes (length line) (omega (arith, h))) refl

-- the number of an output
pub output_word : (n : ℕ) → n < 2 ^ 64 → LineWord (35 ∷ decimal n)
output_word n h =
    let d = decimal_line n h in
    record { is = record { some = omega arith; lacks = (refl, d.is.lacks) }; ends = (refl, d.ends) }
