-- Words of a line are read as what is written.
use Rattle.std.proofs.Common.{◌≡◌, ℕ, ◌+◌, ◌-◌, ◌*◌, ◌/◌, ◌%◌, ◌<◌, ◌≤◌, Bool, true, false, List, [], ◌∷◌, ◌++◌, map, length, Option}
use Rattle.std.proofs.Common.{Some, None}
use Rattle.std.proofs.Common.{refl, sym, ap, ◌∙◌, arith}
use Rattle.std.specs.Prelude.{◌==◌, nat_le, nat_lt, codes, if◌then◌else◌}
use Rattle.std.specs.Fmt.{decimal}
use Rattle.std.specs.List.{list_all, AllByRecursion}
use Rattle.std.specs.Str.{bytes_eq}
use Rattle.std.proofs.lemmas.Bool.Decides.{nat_tests}
use Rattle.spec_data.specs.Digits.{is_digit, hex_digit, hex_text, onto}
use Rattle.spec_data.specs.Lists.{is_among}
use Rattle.spec_terms.specs.Readable.{is_letter, is_name_byte, is_word, is_name, keywords}
use Rattle.spec_calculus.specs.declared.step.Owner.{Owner}
use Rattle.spec_calculus.specs.declared.step.Owner.TheVariants.{Party, Outside}
use Rattle.spec_text.specs.Lines.{parts_of}
use Rattle.spec_text.specs.Words.{a_name, named, all_of}
use Rattle.spec_text.specs.RunText.{output_text}
use Rattle.spec_text.specs.StepText.{owner_text, length_text}
use Rattle.std.proofs.lemmas.Fmt.{decimal_nonempty}
use Rattle.theory_text.proofs.ListFacts.{and_left, and_right, or_left, or_right, or_yes, and_is, not_yes, bytes_ne-back}
use Rattle.theory_text.proofs.Options.{some, none_some}
use Rattle.theory_text.proofs.Lines.Decimals.{decimal-digits, amount_back}
use Rattle.theory_text.proofs.Lines.LineBytes.{ends_line, name_line, decimal_line}
use Rattle.theory_text.proofs.Lines.PrintedWords.{same_bytes}
use Rattle.theory_text.proofs.Lines.Separated.{Lacks, lacks_append, part_last, part_more}
use Rattle.theory_play_text.specs.Lines.{number, an_output, begins_number, an_owner, a_length, pairs_of, cut_at, digit_value, by_digits, Words}
use Rattle.theory_play_text.specs.Lines.{a_party}
use Rattle.theory_play_text.specs.Printable.{IsParty, IsWide, IsNamed, IsOwner, IsLength}
use Rattle.theory_play_text.proofs.LineWords.{is_blank, IsPlain, plain_word, known_word, pair_words}

-- ---- numbers and outputs

pub number_back : (n : ℕ) → IsWide n → number (decimal n) ≡ some n
number_back n h = amount_back n h

pub number_plain : (n : ℕ) → IsWide n → IsPlain (decimal n)
number_plain n h = plain_word (decimal n) (decimal_line n h)

pub output_back : (n : ℕ) → IsWide n → an_output (output_text n) ≡ some n
output_back n h = amount_back n h

pub output_plain : (n : ℕ) → IsWide n → IsPlain (output_text n)
output_plain n h = let d = number_plain n h in record { spaces = (refl, d.spaces); ends = (refl, d.ends) }

-- what is read as a number isn't another word
pub no_number : (word mark : List ℕ) (n : ℕ) → number word ≡ some n → number mark ≡ None → bytes_eq word mark ≡ false
no_number word mark n h k = by_test (bytes_eq word mark) refl
  where
    by_test : (t : Bool) → bytes_eq word mark ≡ t → t ≡ false
    by_test false e = refl
    by_test true e = absurd (none_some n (sym k ∙ (ap number (sym (same_bytes word mark e)) ∙ h)))

begins_digits : (word : List ℕ) → list_all is_digit word ≡ true → 0 < length word → begins_number word ≡ true
begins_digits [] h k = absurd (omega arith)
begins_digits (b ∷ bytes) h k = and_left _ _ h

pub number_begins : (n : ℕ) → IsWide n → begins_number (decimal n) ≡ true
number_begins n h = begins_digits (decimal n) (decimal-digits n h) (decimal_nonempty n h)

-- ---- names

pub name_back : (name : List ℕ) → IsNamed name → a_name name ≡ some name
name_back name h = rw h refl

pub name_plain : (name : List ℕ) → IsNamed name → IsPlain name
name_plain name h = plain_word name (name_line name h)

pub party_back : (party : List ℕ) → IsParty party → a_party party ≡ some party
party_back [] h = refl
party_back (b ∷ bytes) h = name_back (b ∷ bytes) h

pub party_plain : (party : List ℕ) → IsParty party → IsPlain party
party_plain [] h = record { spaces = tt; ends = tt }
party_plain (b ∷ bytes) h = name_plain (b ∷ bytes) h

letter_no_digit : (b : ℕ) → is_letter b ≡ true → is_digit b ≡ false
letter_no_digit b h = grind (arith, nat_tests)

word_no_digit : (name : List ℕ) → is_word name ≡ true → begins_number name ≡ false
word_no_digit [] h = absurd cc
word_no_digit (b ∷ bytes) h = letter_no_digit b (and_left _ _ h)

pub name_begins : (name : List ℕ) → IsNamed name → begins_number name ≡ false
unfolding is_name
name_begins name h = word_no_digit name (and_left _ _ h)

-- no name is a keyword
no_keyword : (name : List ℕ) → IsNamed name → is_among name keywords ≡ false
unfolding is_name
no_keyword name h = not_yes _ (and_right (nat_le (length name) 32) _ (and_right (is_word name) _ h))

outside_among : (name : List ℕ) → is_among name keywords ≡ false → bytes_eq (codes "Outside") name ≡ false
outside_among name h =
    let a1 = or_right (bytes_eq (codes "put") name) _ h in
    let a2 = or_right (bytes_eq (codes "reveal") name) _ a1 in
    let a3 = or_right (bytes_eq (codes "if") name) _ a2 in
    let a4 = or_right (bytes_eq (codes "withdraw") name) _ a3 in
    let a5 = or_right (bytes_eq (codes "split") name) _ a4 in
    let a6 = or_right (bytes_eq (codes "after") name) _ a5 in
    let a7 = or_right (bytes_eq (codes "secret") name) _ a6 in
    let a8 = or_right (bytes_eq (codes "true") name) _ a7 in
    let a9 = or_right (bytes_eq (codes "and") name) _ a8 in
    let b1 = or_right (bytes_eq (codes "not") name) _ a9 in
    let b2 = or_right (bytes_eq (codes "fee") name) _ b1 in
    or_left (bytes_eq (codes "Outside") name) _ b2

pub not_outside : (name : List ℕ) → IsNamed name → bytes_eq name (codes "Outside") ≡ false
not_outside name h = bytes_ne-back (codes "Outside") name (outside_among name (no_keyword name h))

-- ---- owners and lengths

pub owner_back : (o : Owner) → IsOwner o → an_owner (owner_text o) ≡ some o
owner_back (Party name) h = rw (not_outside name h, h) refl
owner_back Outside h = refl

pub owner_plain : (o : Owner) → IsOwner o → IsPlain (owner_text o)
owner_plain (Party name) h = name_plain name h
owner_plain Outside h = known_word (codes "Outside") refl

abbrev a_size : Option ℕ → Option (Option ℕ)
a_size n = Some n

pub length_back : (n : Option ℕ) → IsLength n → a_length (length_text n) ≡ a_size n
length_back None h = refl
length_back (Some n) h = rw (no_number (decimal n) (codes "none") n (number_back n h) refl, number_back n h) refl

pub length_plain : (n : Option ℕ) → IsLength n → IsPlain (length_text n)
length_plain None h = known_word (codes "none") refl
length_plain (Some n) h = number_plain n h

-- ---- many words

pub all_back : {X : Type 0} (P : X → Type 0) (read : List ℕ → Option X) (text : X → List ℕ) → ((x : X) → P x → read (text x) ≡ some x)
    → (xs : List X) → AllByRecursion P xs → all_of read (map text xs) ≡ some xs
all_back P read text f [] h = refl
all_back P read text f (x ∷ xs) h = rw (f x h.0, all_back P read text f xs h.1) refl

pub pairs_back : {A B : Type 0} (P : A × B → Type 0) (read : List ℕ → Option A) (second : List ℕ → Option B) (text : A → List ℕ)
    (other : B → List ℕ) → ((p : A × B) → P p → read (text p.0) ≡ some p.0) → ((p : A × B) → P p → second (other p.1) ≡ some p.1)
    → (ps : List (A × B)) → AllByRecursion P ps → pairs_of read second (pair_words text other ps) ≡ some ps
pairs_back P read second text other f g [] h = refl
pairs_back P read second text other f g (p ∷ ps) h =
    rw (f p h.0, g p h.0, pairs_back P read second text other f g ps h.1) refl

-- ---- a word that words are cut at

abbrev pub NoneIs : List ℕ → List (List ℕ) → Type 0
NoneIs mark words = AllByRecursion (λ w. bytes_eq w mark ≡ false) words

abbrev a_cut : Words → Words → Option (Words × Words)
a_cut before behind = Some (before, behind)

pub cut_back : (mark : List ℕ) (before behind : Words) → bytes_eq mark mark ≡ true → NoneIs mark before
    → cut_at mark (before ++ mark ∷ behind) ≡ a_cut before behind
cut_back mark [] behind same h = rw same refl
cut_back mark (word ∷ words) behind same h = rw (h.0, cut_back mark words behind same h.1) refl

-- ---- names with values

abbrev is_sign : ℕ → Bool
is_sign b = b == 61

name_byte_no_sign : (b : ℕ) → is_name_byte b ≡ true → is_sign b ≡ false
name_byte_no_sign b h = grind (arith, nat_tests)

all_no_sign : (xs : List ℕ) → list_all is_name_byte xs ≡ true → Lacks is_sign xs
all_no_sign [] h = tt
all_no_sign (x ∷ xs) h = (name_byte_no_sign x (and_left _ _ h), all_no_sign xs (and_right (is_name_byte x) _ h))

word_no_sign : (name : List ℕ) → is_word name ≡ true → Lacks is_sign name
word_no_sign [] h = absurd cc
word_no_sign (b ∷ rest) h = all_no_sign (b ∷ rest) (and_is _ _ (or_yes (is_letter b) _ (and_left _ _ h)) (and_right (is_letter b) _ h))

name_no_sign : (name : List ℕ) → IsNamed name → Lacks is_sign name
unfolding is_name
name_no_sign name h = word_no_sign name (and_left _ _ h)

digit_no_sign : (b : ℕ) → is_digit b ≡ true → is_sign b ≡ false
digit_no_sign b h = grind (arith, nat_tests)

digits_no_sign : (xs : List ℕ) → list_all is_digit xs ≡ true → Lacks is_sign xs
digits_no_sign [] h = tt
digits_no_sign (x ∷ xs) h = (digit_no_sign x (and_left _ _ h), digits_no_sign xs (and_right (is_digit x) _ h))

pub output_no_sign : (n : ℕ) → IsWide n → Lacks is_sign (output_text n)
output_no_sign n h = (refl, digits_no_sign (decimal n) (decimal-digits n h))

pub length_no_sign : (n : Option ℕ) → IsLength n → Lacks is_sign (length_text n)
length_no_sign None h = (refl, (refl, (refl, (refl, tt))))
length_no_sign (Some n) h = digits_no_sign (decimal n) (decimal-digits n h)

module _ {V : Type 0} (read : List ℕ → Option V) (text : V → List ℕ) where
  abbrev pub named_text : List ℕ × V → List ℕ
  named_text p = p.0 ++ (codes "=" ++ text p.1)

  pub named_back : (p : List ℕ × V) → IsNamed (p.0) → Lacks is_sign (text p.1) → read (text p.1) ≡ some (p.1)
      → named read (named_text p) ≡ some p
  named_back p name lacks is =
      let cut : parts_of is_sign (p.0 ++ 61 ∷ text p.1) ≡ p.0 ∷ text p.1 ∷ [] =
      part_more is_sign (p.0) 61 (text p.1) (name_no_sign (p.0) name) refl
      ∙ ap (λ (ps : List (List ℕ)). p.0 ∷ ps) (part_last is_sign (text p.1) lacks) in
      rw (cut, name, is) refl

  pub named_plain : (p : List ℕ × V) → IsNamed (p.0) → IsPlain (text p.1) → IsPlain (named_text p)
  named_plain p name h =
      let n = name_plain (p.0) name in
      record {
        spaces = lacks_append is_blank (p.0) (61 ∷ text p.1) n.spaces (refl, h.spaces);
        ends = lacks_append ends_line (p.0) (61 ∷ text p.1) n.ends (refl, h.ends);
      }

-- ---- strings

glyph_value : (v : ℕ) → digit_value (hex_digit v) ≡ v
glyph_value v = by_ten (nat_lt v 10) v refl
  where
    low : (v : ℕ) → v < 10 → is_digit (48 + v) ≡ true
    low v h = grind (arith, nat_tests)

    high : (v : ℕ) → 10 ≤ v → is_digit (87 + v) ≡ false
    high v h = grind (arith, nat_tests)

    by_ten : (t : Bool) (v : ℕ) → nat_lt v 10 ≡ t → digit_value (if t then 48 + v else 87 + v) ≡ v
    by_ten true v e = let less : v < 10 = grind (arith, nat_tests) in rw (low v less) (let n : 48 + v - 48 ≡ v = omega arith in n)
    by_ten false v e = let more : 10 ≤ v = grind (arith, nat_tests) in rw (high v more) (let n : 87 + v - 87 ≡ v = omega arith in n)

two_digits : (b : ℕ) → b / 16 * 16 + b % 16 ≡ b
two_digits b = omega arith

pub bytes_back : (bytes : List ℕ) → by_digits (hex_text bytes) ≡ some bytes
bytes_back [] = refl
bytes_back (b ∷ bytes) =
    ap (λ o. onto (some (digit_value (hex_digit (b / 16)) * 16 + digit_value (hex_digit (b % 16)))) o) (bytes_back bytes)
    ∙ (λ i. some ((glyph_value (b / 16) i * 16 + glyph_value (b % 16) i) ∷ bytes))
    ∙ ap (λ (n : ℕ). some (n ∷ bytes)) (two_digits b)

-- whether a test is false at each glyph
abbrev Spares : (ℕ → Bool) → Type 0
Spares test = (v : ℕ) → test (hex_digit v) ≡ false

spares_glyphs : (test : ℕ → Bool) → ((n : ℕ) → 48 ≤ n → test n ≡ false) → Spares test
spares_glyphs test f v = f (hex_digit v) (by_ten (nat_lt v 10))
  where
    by_ten : (t : Bool) → 48 ≤ (if t then 48 + v else 87 + v)
    by_ten true = omega arith
    by_ten false = omega arith

glyphs_lack : (test : ℕ → Bool) → Spares test → (bytes : List ℕ) → Lacks test (hex_text bytes)
glyphs_lack test h [] = tt
glyphs_lack test h (b ∷ bytes) = (h (b / 16), (h (b % 16), glyphs_lack test h bytes))

blank_low : (n : ℕ) → 48 ≤ n → is_blank n ≡ false
blank_low n h = grind (arith, nat_tests)

ending_low : (n : ℕ) → 48 ≤ n → ends_line n ≡ false
ending_low n h = grind (arith, nat_tests)

pub bytes_plain : (bytes : List ℕ) → IsPlain (hex_text bytes)
bytes_plain bytes = record {
  spaces = glyphs_lack is_blank (spares_glyphs is_blank blank_low) bytes;
  ends = glyphs_lack ends_line (spares_glyphs ends_line ending_low) bytes;
}
