-- The text of `keys` with its blanks filled in: its lines, and the words of these.
use Rattle.std.proofs.Common.{◌≡◌, ℕ, zero, suc, ◌<◌, ◌^◌, List, [], ◌∷◌, ◌++◌, length, map, Bool, true, false}
use Rattle.std.proofs.Common.{refl, sym, ap, subst, ◌∙◌, arith, cond}
use Rattle.std.specs.Prelude.{flat_map, reverse, ◌==◌, ◌&&◌, codes}
use Rattle.std.specs.Fmt.{decimal}
use Rattle.std.specs.List.{list_all, AllByRecursion}
use Rattle.std.specs.Str.{bytes_eq}
use Rattle.std.proofs.lemmas.Bool.{and_parts}
use Rattle.std.proofs.lemmas.Bool.Decides.{nat_tests}
use Rattle.std.proofs.lemmas.List.{length-reverse, reverse-append}
use Rattle.spec_data.specs.Digits.{hex_text, read_hex}
use Rattle.spec_data.specs.Hashes.{IsBytes}
use Rattle.spec_data.proofs.ByteLemmas.{IsBytes-append}
use Rattle.spec_terms.specs.Readable.{is_letter, is_name_byte, is_word, is_name}
use Rattle.spec_bitcoin.specs.declared.label.Label.{Label}
use Rattle.spec_bitcoin.specs.declared.label.Label.TheVariants as labels
use Rattle.spec_bitcoin.specs.declared.tx.OutPoint.{OutPoint}
use Rattle.spec_bitcoin.specs.Keys.{label_text, path_text}
use Rattle.spec_bitcoin.proofs.StepLemmas.{branch_is, deposit_is}
use Rattle.spec_text.specs.Lines.{is_space, words_of, lines_of}
use Rattle.spec_deal.specs.declared.deal.Needed.{Needed}
use Rattle.spec_deal.specs.declared.deal.Needed.TheVariants as needs
use Rattle.spec_deal.specs.declared.entry.Value.{Value}
use Rattle.spec_deal.specs.declared.entry.Value.TheVariants.{Key as key, Place as place, Hash as hash}
use Rattle.spec_deal.specs.DealFile.{is_key}
use Rattle.spec_deal.specs.DealText as print
use Rattle.spec_deal.specs.DealText.{needed_words, blanks}
use Rattle.spec_deal.specs.Verifier.{Verifier}
use Rattle.theory_bitcoin.proofs.Exact.{bytes_none, bytes_cons}
use Rattle.theory_text.proofs.ListFacts.{and_left}
use Rattle.theory_text.proofs.Lines.HexBack.{hex_back}
use Rattle.theory_text.proofs.Lines.LineBytes.{ends_line, LineWord, lined, lines_again, name_line, decimal_line, hex_line}
use Rattle.theory_text.proofs.Lines.PathsBack.{steps_lack}
use Rattle.theory_text.proofs.Lines.Separated.{Lacks, IsWord, spaced, spaced_words}
use Rattle.theory_text.proofs.Options.{some}
use Rattle.theory_play_text.specs.Lines.{Words}
use Rattle.theory_play_text.specs.Printable.{IsNamed}
use Rattle.theory_play_text.proofs.LineWords.{ArePlain, plain_word, line_of, line_ends}
use Rattle.theory_plan_text.specs.Audit.{IsShownLabel}
use Rattle.theory_plan_text.proofs.AnyLines.{line_text, text_of, text_lined}
use Rattle.theory_deal_text.specs.Filled.{filled_words, filled_lines, filled, digits_word, place_words, IsValue}
use Rattle.theory_deal_text.specs.Keys.{is_blank}
use Rattle.theory_deal_text.proofs.KeysRead.{written, IsAsked, words_plain}
use Rattle.theory_deal_text.proofs.Words.{line_is, branch_lacks, label_plain}

-- ---- words between spaces

-- a line is its words, with spaces between them
spaced_is : (word : List ℕ) (words : Words) → line_of (word ∷ words) ≡ spaced (word ∷ words)
spaced_is word [] = sym (no_more word)
  where
    no_more : (xs : List ℕ) → xs ++ [] ≡ xs
    no_more [] = refl
    no_more (x ∷ xs) = ap (λ (ys : List ℕ). x ∷ ys) (no_more xs)
spaced_is word (next ∷ words) = ap (λ (r : List ℕ). word ++ (32 ∷ r)) (spaced_is next words)

pub words_again : (word : List ℕ) (words : Words) → AllByRecursion IsWord (word ∷ words) → words_of (line_of (word ∷ words)) ≡ word ∷ words
words_again word words h = ap words_of (spaced_is word words) ∙ spaced_words (word ∷ words) h

number_spaces : (n : ℕ) → n < 2 ^ 32 → Lacks is_space (decimal n)
number_spaces n h = (decimal_line n (omega (arith, h))).is.lacks

label_some : (l : Label) → 0 < length (label_text l)
label_some (labels.Deposit party) = subst (λ (x : List ℕ). 0 < length x) (sym (deposit_is party)) (omega arith)
label_some (labels.Branch contract path party) = subst (λ (x : List ℕ). 0 < length x) (sym (branch_is contract path party)) (omega arith)

label_spaces : (l : Label) → IsShownLabel l → Lacks is_space (label_text l)
label_spaces (labels.Deposit party) h =
    subst (Lacks is_space) (sym (deposit_is party)) (refl, (refl, (name_line party h).is.lacks))
label_spaces (labels.Branch contract path party) h =
    subst (Lacks is_space) (sym (branch_is contract path party))
    (branch_lacks is_space (decimal contract) (path_text path) party refl refl (number_spaces contract h.0)
    (refl, steps_lack is_space refl refl number_spaces path h.1) (name_line party h.2).is.lacks)

label_word : (l : Label) → IsShownLabel l → IsWord (label_text l)
label_word l h = let n = label_some l in record { some = omega (arith, n); lacks = label_spaces l h }

name_word : (name : List ℕ) → IsNamed name → IsWord name
name_word name h = (name_line name h).is

known : (word : List ℕ) → Lacks is_space word → 0 < length word → IsWord word
known word h n = record { some = omega (arith, n); lacks = h }

blank_word : IsWord (codes "..")
blank_word = known (codes "..") (refl, (refl, tt)) (omega arith)

pub digits_read : (bytes : List ℕ) → 0 < length bytes → IsBytes bytes → read_hex (hex_text bytes) ≡ some bytes
digits_read [] n h = absurd (omega (arith, n))
digits_read (b ∷ bytes) n h = hex_back (b ∷ bytes) h

-- bytes the other way round
pub reversed : (bytes : List ℕ) → IsBytes bytes → IsBytes (reverse bytes)
reversed [] h = bytes_none
reversed (b ∷ bytes) h =
    subst IsBytes (sym (reverse-append (b ∷ []) bytes))
    (IsBytes-append (reverse bytes) (b ∷ []) (reversed bytes (λ i. h (suc i))) (bytes_cons b [] (h zero) bytes_none))

-- a key has bytes
key_some : (v : Verifier) (bytes : List ℕ) → is_key v bytes ≡ true → 0 < length bytes
key_some v [] h = cc
key_some v (b ∷ bytes) h = omega arith

line_is_words : (words : Words) → AllByRecursion LineWord words → AllByRecursion IsWord words
line_is_words [] h = tt
line_is_words (word ∷ words) h = (h.0.is, line_is_words words h.1)

plain_all : (words : Words) → AllByRecursion LineWord words → ArePlain words
plain_all [] h = tt
plain_all (word ∷ words) h = (plain_word word h.0, plain_all words h.1)

-- no name and no label is a blank
letter_no_dot : (b : ℕ) → is_letter b ≡ true → (b == 46) ≡ false
letter_no_dot b h = grind (arith, nat_tests)

word_filled : (name : List ℕ) → is_word name ≡ true → is_blank name ≡ false
word_filled [] h = refl
word_filled (b ∷ rest) h =
    ap (λ (t : Bool). t && bytes_eq rest (46 ∷ [])) (letter_no_dot b (and_parts (is_letter b) (list_all is_name_byte rest) h).0)

name_filled : (name : List ℕ) → IsNamed name → is_blank name ≡ false
unfolding is_name
name_filled name h = word_filled name (and_left _ _ h)

label_filled : (l : Label) → is_blank (label_text l) ≡ false
label_filled (labels.Deposit party) = ap is_blank (deposit_is party)
label_filled (labels.Branch contract path party) = ap is_blank (branch_is contract path party)

-- ---- what is given, line by line

-- to a label, a deposit or a secret of this name
pub data Gift : Type 0 where
  of_label : (label : Label) → (bytes : List ℕ) → Gift
  of_deposit : (name : List ℕ) → (outpoint : OutPoint) → Gift
  of_secret : (name : List ℕ) → (bytes : List ℕ) → Gift

abbrev pub what_of : Gift → Needed
what_of (of_label label bytes) = needs.Key label
what_of (of_deposit name outpoint) = needs.Deposit name
what_of (of_secret name bytes) = needs.Hash name

abbrev pub value_of : Gift → Value
value_of (of_label label bytes) = key bytes
value_of (of_deposit name outpoint) = place outpoint
value_of (of_secret name bytes) = hash bytes

abbrev pub values_of : Gift → Words
values_of (of_label label bytes) = digits_word bytes
values_of (of_deposit name outpoint) = place_words outpoint
values_of (of_secret name bytes) = digits_word bytes

-- the words of its line: the first, and the others
abbrev pub first_of : Gift → List ℕ
first_of (of_label label bytes) = codes "key"
first_of (of_deposit name outpoint) = codes "deposit"
first_of (of_secret name bytes) = codes "hash"

abbrev pub others_of : Gift → Words
others_of (of_label label bytes) = label_text label ∷ digits_word bytes
others_of (of_deposit name outpoint) = name ∷ place_words outpoint
others_of (of_secret name bytes) = name ∷ digits_word bytes

abbrev pub words_in : Gift → Words
words_in p = first_of p ∷ others_of p

-- what may be given
abbrev pub IsGood : Verifier → Gift → Type 0
IsGood v (of_label label bytes) = IsShownLabel label × IsValue v (key bytes)
IsGood v (of_deposit name outpoint) = IsNamed name × IsValue v (place outpoint)
IsGood v (of_secret name bytes) = IsNamed name × IsValue v (hash bytes)

module _ (v : Verifier) where
  asked : (p : Gift) → IsGood v p → IsAsked (what_of p)
  asked (of_label label bytes) h = h.0
  asked (of_deposit name outpoint) h = h.0
  asked (of_secret name bytes) h = h.0

  -- ---- the blanks

  abbrev blank_words : Gift → Words
  blank_words p = needed_words (what_of p) ++ blanks (what_of p)

  blanks_again : (p : Gift) → IsGood v p → words_of (line_text written (what_of p)) ≡ blank_words p
  blanks_again (of_label label bytes) h =
      words_again (codes "key") (label_text label ∷ codes ".." ∷ [])
      (known (codes "key") (refl, (refl, (refl, tt))) (omega arith), (label_word label h.0, (blank_word, tt)))
  blanks_again (of_deposit name outpoint) h =
      words_again (codes "deposit") (name ∷ codes ".." ∷ codes ".." ∷ [])
      (known (codes "deposit") (refl, (refl, (refl, (refl, (refl, (refl, (refl, tt))))))) (omega arith), (name_word name h.0, (blank_word, (blank_word, tt))))
  blanks_again (of_secret name bytes) h =
      words_again (codes "hash") (name ∷ codes ".." ∷ [])
      (known (codes "hash") (refl, (refl, (refl, (refl, tt)))) (omega arith), (name_word name h.0, (blank_word, tt)))

  filled_in : (p : Gift) → IsGood v p → filled_words (values_of p) (blank_words p) ≡ words_in p
  filled_in (of_label label bytes) h =
      ap (λ (t : Bool). codes "key" ∷ cond t (hex_text bytes ∷ filled_words [] (codes ".." ∷ [])) (label_text label ∷ hex_text bytes ∷ []))
      (label_filled label)
  filled_in (of_deposit name outpoint) h =
      let x = hex_text (reverse outpoint.txid) in
      let y = decimal outpoint.vout in
      ap (λ (t : Bool). codes "deposit" ∷ cond t (x ∷ filled_words (y ∷ []) (codes ".." ∷ codes ".." ∷ [])) (name ∷ x ∷ y ∷ []))
      (name_filled name h.0)
  filled_in (of_secret name bytes) h =
      ap (λ (t : Bool). codes "hash" ∷ cond t (hex_text bytes ∷ filled_words [] (codes ".." ∷ [])) (name ∷ hex_text bytes ∷ []))
      (name_filled name h.0)

  -- ---- the words that stand in their places

  digits_line : (bytes : List ℕ) → 0 < length bytes → IsBytes bytes → LineWord (hex_text bytes)
  digits_line bytes n h = hex_line bytes h (digits_read bytes n h)

  words_fine : (p : Gift) → IsGood v p → AllByRecursion LineWord (words_in p)
  words_fine (of_label label bytes) h =
      let n = key_some v bytes (h.1).1 in (
        record { is = known (codes "key") (refl, (refl, (refl, tt))) (omega arith); ends = (refl, (refl, (refl, tt))) },
        (record { is = label_word label h.0; ends = (label_plain label h.0).ends }, (digits_line bytes n (h.1).0, tt)),
      )
  words_fine (of_deposit name outpoint) h =
      let txid = (h.1).txid in
      let size = (h.1).size in
      let vout = (h.1).vout in
      let n = length-reverse outpoint.txid in (
        record {
          is = known (codes "deposit") (refl, (refl, (refl, (refl, (refl, (refl, (refl, tt))))))) (omega arith);
          ends = (refl, (refl, (refl, (refl, (refl, (refl, (refl, tt)))))));
        },
        (
          name_line name h.0,
          (
            digits_line (reverse outpoint.txid) (omega (arith, n, size)) (reversed outpoint.txid txid),
            (decimal_line outpoint.vout (omega (arith, vout)), tt),
          ),
        ),
      )
  words_fine (of_secret name bytes) h =
      let size = (h.1).1 in (
        record { is = known (codes "hash") (refl, (refl, (refl, (refl, tt)))) (omega arith); ends = (refl, (refl, (refl, (refl, tt)))) },
        (name_line name h.0, (digits_line bytes (omega (arith, size)) (h.1).0, tt)),
      )

  pub words_back : (p : Gift) → IsGood v p → words_of (line_of (words_in p)) ≡ words_in p
  words_back p h = words_again (first_of p) (others_of p) (line_is_words (words_in p) (words_fine p h))

  given_ends : (p : Gift) → IsGood v p → Lacks ends_line (line_of (words_in p))
  given_ends p h = line_ends (words_in p) (plain_all (words_in p) (words_fine p h))

  -- ---- all lines

  abbrev AreGood : List Gift → Type 0
  AreGood ps = AllByRecursion (IsGood v) ps

  asked_all : (ps : List Gift) → AreGood ps → AllByRecursion (Lacks ends_line) (map (line_text written) (map what_of ps))
  asked_all [] h = tt
  asked_all (p ∷ ps) h =
      (line_ends (written.word (what_of p) ∷ written.words (what_of p)) (words_plain (what_of p) (asked p h.0)), asked_all ps h.1)

  blanks_all : (ps : List Gift) → AreGood ps → map words_of (map (line_text written) (map what_of ps)) ≡ map blank_words ps
  blanks_all [] h = refl
  blanks_all (p ∷ ps) h = λ i. blanks_again p h.0 i ∷ blanks_all ps h.1 i

  filled_all : (ps : List Gift) → AreGood ps → filled_lines (map values_of ps) (map blank_words ps) ≡ map words_in ps
  filled_all [] h = refl
  filled_all (p ∷ ps) h = λ i. filled_in p h.0 i ∷ filled_all ps h.1 i

  abbrev pub given_lines : List Gift → List (List ℕ)
  given_lines ps = map (λ p. line_of (words_in p)) ps

  printed_all : (ps : List Gift) → flat_map print.line_of (map words_in ps) ≡ lined (given_lines ps)
  printed_all [] = refl
  printed_all (p ∷ ps) = λ i. line_is (first_of p) (others_of p) i ++ printed_all ps i

  ends_all : (ps : List Gift) → AreGood ps → AllByRecursion (Lacks ends_line) (given_lines ps)
  ends_all [] h = tt
  ends_all (p ∷ ps) h = (given_ends p h.0, ends_all ps h.1)

  -- the text with its blanks filled in has these lines
  pub lines_filled : (ps : List Gift) → AreGood ps
      → lines_of (filled (map values_of ps) (text_of written (map what_of ps))) ≡ given_lines ps
  lines_filled ps h =
      ap (λ (t : List ℕ). lines_of (filled (map values_of ps) t)) (text_lined written (map what_of ps))
      ∙ (ap (λ (ls : List (List ℕ)). lines_of (flat_map print.line_of (filled_lines (map values_of ps) (map words_of ls))))
      (lines_again (map (line_text written) (map what_of ps)) (asked_all ps h))
      ∙ (ap (λ (ws : List Words). lines_of (flat_map print.line_of (filled_lines (map values_of ps) ws))) (blanks_all ps h)
      ∙ (ap (λ (ws : List Words). lines_of (flat_map print.line_of ws)) (filled_all ps h)
      ∙ (ap lines_of (printed_all ps) ∙ lines_again (given_lines ps) (ends_all ps h)))))
