-- Which bytes the words of canonical lines have, and the lines of a text of such lines.
use Rattle.std.proofs.Common.{◌≡◌, ℕ, ◌<◌, ◌≤◌, ◌^◌, Bool, true, false, List, [], ◌∷◌, ◌++◌, length, map, refl, ap, ◌∙◌, arith, append_assoc}
use Rattle.std.specs.Prelude.{◌==◌, ◌||◌, nat_le, flat_map}
use Rattle.std.specs.Fmt.{decimal}
use Rattle.std.specs.List.{list_all, AllByRecursion}
use Rattle.std.proofs.lemmas.Bool.Decides.{nat_tests}
use Rattle.std.proofs.lemmas.Fmt.{decimal_nonempty}
use Rattle.spec_bitcoin.specs.Spelling.{IsBytes}
use Rattle.spec_data.specs.Digits.{is_digit, hex_text, read_hex}
use Rattle.spec_terms.specs.Readable.{is_letter, is_name_byte, is_word, is_name}
use Rattle.spec_text.specs.Lines.{is_space, lines_of}
use Rattle.spec_text.specs.RunText.{newline}
use Rattle.theory_text.proofs.Options.{some, none_some}
use Rattle.theory_text.proofs.ListFacts.{and_is, and_left, and_right, or_left, or_right, or_yes}
use Rattle.theory_text.proofs.Lines.Decimals.{decimal-digits}
use Rattle.theory_text.proofs.Lines.HexBack.{SparesDigits, spares_by, hex_lacks, no_space}
use Rattle.theory_text.proofs.Lines.Separated.{Lacks, lacks_append, IsWord, spaced, each_spaced}

-- a line feed, or the carriage return that may stand before it
abbrev pub ends_line : ℕ → Bool
ends_line b = (b == 10) || (b == 13)

-- ---- lines

line_feed : (line rest : List ℕ) → Lacks ends_line line → lines_of (line ++ 10 ∷ rest) ≡ line ∷ lines_of rest
line_feed [] rest h = refl
line_feed (x ∷ xs) rest h = rw (or_left (x == 10) (x == 13) h.0, or_right (x == 10) (x == 13) h.0, line_feed xs rest h.1) refl

-- a text of these lines
abbrev pub lined : List (List ℕ) → List ℕ
lined lines = flat_map (λ l. l ++ newline) lines

pub lines_again : (lines : List (List ℕ)) → AllByRecursion (Lacks ends_line) lines → lines_of (lined lines) ≡ lines
lines_again [] h = refl
lines_again (line ∷ lines) h =
    ap lines_of (append_assoc line newline (lined lines)) ∙ (line_feed line (lined lines) h.0 ∙ ap (λ (ls : List (List ℕ)). line ∷ ls) (lines_again lines h.1))

-- lines that are written one by one
pub lined_map : {X : Type 0} (text line : X → List ℕ) → ((x : X) → text x ≡ line x ++ newline) → (xs : List X) (rest : List (List ℕ))
    → flat_map text xs ++ lined rest ≡ lined (map line xs ++ rest)
lined_map text line f [] rest = refl
lined_map text line f (x ∷ xs) rest = append_assoc (text x) (flat_map text xs) (lined rest) ∙ (λ i. f x i ++ lined_map text line f xs rest i)

each_ends : (words : List (List ℕ)) → AllByRecursion (Lacks ends_line) words → Lacks ends_line (each_spaced words)
each_ends [] h = tt
each_ends (word ∷ words) h = (refl, lacks_append ends_line word (each_spaced words) h.0 (each_ends words h.1))

-- a line of words that end no line
pub spaced_ends : (words : List (List ℕ)) → AllByRecursion (Lacks ends_line) words → Lacks ends_line (spaced words)
spaced_ends [] h = tt
spaced_ends (word ∷ words) h = lacks_append ends_line word (each_spaced words) h.0 (each_ends words h.1)

-- ---- words

-- a word that may stand in a line
pub record LineWord (word : List ℕ) : Type 0 where
  pub is : IsWord word
  pub ends : Lacks ends_line word

all_lack : (test passes : ℕ → Bool) → ((b : ℕ) → passes b ≡ true → test b ≡ false) → (xs : List ℕ) → list_all passes xs ≡ true → Lacks test xs
all_lack test passes f [] h = tt
all_lack test passes f (x ∷ xs) h = (f x (and_left _ _ h), all_lack test passes f xs (and_right (passes x) _ h))

name_byte_space : (b : ℕ) → is_name_byte b ≡ true → is_space b ≡ false
name_byte_space b h = grind (arith, nat_tests)

name_byte_ends : (b : ℕ) → is_name_byte b ≡ true → ends_line b ≡ false
name_byte_ends b h = grind (arith, nat_tests)

digit_space : (b : ℕ) → is_digit b ≡ true → is_space b ≡ false
digit_space b h = grind (arith, nat_tests)

digit_ends : (b : ℕ) → is_digit b ≡ true → ends_line b ≡ false
digit_ends b h = grind (arith, nat_tests)

letter_name : (b : ℕ) (rest : List ℕ) → is_word (b ∷ rest) ≡ true → list_all is_name_byte (b ∷ rest) ≡ true
letter_name b rest h = and_is _ _ (or_yes (is_letter b) _ (and_left _ _ h)) (and_right (is_letter b) _ h)

word_bytes : (x : List ℕ) → is_word x ≡ true → LineWord x
word_bytes [] h = absurd cc
word_bytes (b ∷ rest) h =
    let all = letter_name b rest h in
    record {
      is = record { some = omega arith; lacks = all_lack is_space is_name_byte name_byte_space (b ∷ rest) all };
      ends = all_lack
          ends_line is_name_byte name_byte_ends (b ∷ rest) all;
    }

pub name_line : (x : List ℕ) → is_name x ≡ true → LineWord x
unfolding is_name
name_line x h = word_bytes x (and_left _ _ h)

name_short_at : (n : ℕ) → nat_le n 32 ≡ true → n ≤ 32
name_short_at n h = grind (arith, nat_tests)

pub name_short : (x : List ℕ) → is_name x ≡ true → length x ≤ 32
unfolding is_name
name_short x h = name_short_at (length x) (and_left _ _ (and_right (is_word x) _ h))

pub decimal_line : (n : ℕ) → n < 2 ^ 64 → LineWord (decimal n)
decimal_line n h =
    let all = decimal-digits n h in
    record {
      is = record { some = decimal_nonempty n h; lacks = all_lack is_space is_digit digit_space (decimal n) all };
      ends = all_lack
          ends_line is_digit digit_ends (decimal n) all;
    }

digits_end_no_line : SparesDigits ends_line
digits_end_no_line = spares_by ends_line (λ n h. grind (arith, nat_tests)) (λ n h k. grind (arith, nat_tests))

some_hex : (word bytes : List ℕ) → read_hex word ≡ some bytes → 1 ≤ length word
some_hex [] bytes h = absurd (none_some bytes h)
some_hex (c ∷ cs) bytes h = omega arith

pub hex_line : (bytes : List ℕ) → IsBytes bytes → read_hex (hex_text bytes) ≡ some bytes → LineWord (hex_text bytes)
hex_line bytes are read = record {
  is = record {
    some = some_hex (hex_text bytes) bytes read;
    lacks = hex_lacks is_space bytes no_space
        are;
  };
  ends = hex_lacks ends_line bytes digits_end_no_line are;
}

pub line_is : (words : List (List ℕ)) → AllByRecursion LineWord words → AllByRecursion IsWord words
line_is [] h = tt
line_is (word ∷ words) h = (h.0.is, line_is words h.1)

pub line_ends : (words : List (List ℕ)) → AllByRecursion LineWord words → AllByRecursion (Lacks ends_line) words
line_ends [] h = tt
line_ends (word ∷ words) h = (h.0.ends, line_ends words h.1)
