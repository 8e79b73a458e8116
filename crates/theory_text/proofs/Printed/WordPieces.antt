-- Names and keywords as pieces of text.
use Rattle.std.proofs.Common.{◌≡◌, ℕ, true, false, List, [], ◌∷◌, ◌++◌, length, map, Option, Some, None, refl, ap, ◌∙◌, arith}
use Rattle.std.specs.Prelude.{codes, nat_le}
use Rattle.std.specs.List.{list_all}
use Rattle.std.specs.Str.{bytes_eq}
use Rattle.std.proofs.lemmas.Bool.Decides.{nat_tests}
use Rattle.spec_data.specs.Lists.{is_among}
use Rattle.spec_terms.specs.Readable.{is_letter, is_name_byte, is_name, keywords as words}
use Rattle.spec_data.specs.Ranges.{most_name_bytes}
use Rattle.spec_text.specs.declared.token.Kind.{Kind}
use Rattle.spec_text.specs.declared.token.Kind.TheVariants as kind
use Rattle.spec_text.specs.declared.token.Keyword.{Keyword}
use Rattle.spec_text.specs.declared.token.Keyword.TheVariants as word
use Rattle.spec_text.specs.declared.lexeme.Lexeme.{Lexeme}
use Rattle.spec_text.specs.declared.lexeme.Lexeme.TheVariants.{Keyword as keyword, Name as name}
use Rattle.spec_text.specs.Lexeme.{fits_name, name_or_long, lexeme_of}
use Rattle.spec_text.specs.Lexis.{is_blank, keywords, word_in, name_kind, kind_or_name, word_kind, Prefix, word_prefix, prefix}
use Rattle.theory_text.proofs.ListFacts.{and_is, and_left, and_right, or_left, or_right, not_yes, bytes_ne-back}
use Rattle.theory_text.proofs.Within.ReadWithin.{le_yes}
use Rattle.theory_text.proofs.Runs.{run_append}
use Rattle.theory_text.proofs.Printed.Pieces.{says_token, Ends, Piece, Closed, piece_closed}
use Rattle.theory_text.proofs.Printed.Marks.{space}

-- ---- words

letter_no_blank : (b : ℕ) → is_letter b ≡ true → is_blank b ≡ false
letter_no_blank b h = grind (arith, nat_tests)

abbrev some_prefix : Kind → ℕ → Option Prefix
some_prefix k n = Some (k, n)

word_at_prefix : (b : ℕ) (more rest : List ℕ) → list_all is_name_byte more ≡ true → Ends rest → word_prefix b (more ++ rest)
    ≡ (word_kind (b ∷ more), length more)
unfolding word_prefix
word_at_prefix b more rest h ends = ap (λ (run : List ℕ). let f : Prefix = (word_kind (b ∷ run), length run) in f) (run_append is_name_byte more rest h ends)

prefix_letter : (b : ℕ) (bytes : List ℕ) → is_letter b ≡ true → prefix b bytes ≡ Some (word_prefix b bytes)
prefix_letter b bytes h = rw h refl

prefix_is : (b : ℕ) (more rest : List ℕ) (k : Kind) → is_letter b ≡ true → list_all is_name_byte more ≡ true → word_kind (b ∷ more) ≡ k
    → Ends rest → prefix b (more ++ rest) ≡ some_prefix k (length more)
prefix_is b more rest k letter h is ends =
    prefix_letter b (more ++ rest) letter ∙ (ap (λ (f : Prefix). Some f) (word_at_prefix b more rest h ends)
    ∙ ap (λ (j : Kind). some_prefix j (length more)) is)

-- a word whose kind is known
word_piece : (b : ℕ) (more : List ℕ) (k : Kind) (t : Lexeme) → is_letter b ≡ true → list_all is_name_byte more ≡ true → word_kind (b ∷ more)
    ≡ k → lexeme_of k (b ∷ more) ≡ t → Piece (b ∷ more) (t ∷ [])
word_piece b more k t letter h is say =
    record { says = λ rest later ends l. says_token b more rest k t later (letter_no_blank b letter) (prefix_is b more rest k letter h is ends) say l }

-- ---- names

-- what is none of the words of a table isn't in it
none_in : {A : Type 0} (rows : List (List ℕ × A)) (bytes : List ℕ) → is_among bytes (map (λ (row : List ℕ × A). row.0) rows) ≡ false → word_in rows bytes ≡ None
none_in [] bytes h = refl
none_in (row ∷ rows) bytes h =
    let apart : bytes_eq bytes row.0 ≡ false = bytes_ne-back row.0 bytes (or_left _ _ h) in
    rw apart (none_in rows bytes (or_right _ _ h))

name_kind-is : (bytes : List ℕ) → nat_le (length bytes) most_name_bytes ≡ true → name_kind bytes ≡ kind.Name
name_kind-is bytes h = rw h refl

fits : (b : ℕ) (more : List ℕ) → nat_le (length (b ∷ more)) most_name_bytes ≡ true → name_or_long (b ∷ more) (fits_name (b ∷ more)) ≡ name (b ∷ more)
fits b more h =
    let yes : fits_name (b ∷ more) ≡ true = and_is _ _ (le_yes 1 (length (b ∷ more)) (omega arith)) h in
    ap (name_or_long (b ∷ more)) yes

pub name_piece : (x : List ℕ) → is_name x ≡ true → Piece x (name x ∷ [])
unfolding is_name
name_piece [] h = absurd cc
name_piece (b ∷ more) h =
    let short : nat_le (length (b ∷ more)) most_name_bytes ≡ true = and_left _ _ (and_right _ _ h) in
    let other : is_among (b ∷ more) words ≡ false = not_yes _ (and_right _ _ (and_right _ _ h)) in
    let none : word_in keywords (b ∷ more) ≡ None = none_in keywords (b ∷ more) other in
    let is : word_kind (b ∷ more) ≡ kind.Name = ap (kind_or_name (b ∷ more)) none ∙ name_kind-is (b ∷ more) short in
    word_piece b more kind.Name (name (b ∷ more)) (and_left _ _ (and_left _ _ h)) (and_right _ _ (and_left _ _ h)) is (fits b more short)

-- ---- keywords

keyword_piece : (b : ℕ) (more : List ℕ) (k : Keyword) → is_letter b ≡ true → list_all is_name_byte more ≡ true → word_in keywords (b ∷ more)
    ≡ Some k → Piece (b ∷ more) (keyword k ∷ [])
keyword_piece b more k letter h is = word_piece b more (kind.Keyword k) (keyword k) letter h (ap (kind_or_name (b ∷ more)) is) refl

-- a word before a space
spaced : {bytes : List ℕ} {said : List Lexeme} → Piece bytes said → Closed (bytes ++ 32 ∷ []) (said ++ [])
spaced h = piece_closed h space refl

pub true_piece : Piece (codes "true") (keyword word.True ∷ [])
true_piece = keyword_piece 116 (codes "rue") word.True refl refl refl

pub put_space : Closed (codes "put ") (keyword word.Put ∷ [])
put_space = spaced (keyword_piece 112 (codes "ut") word.Put refl refl refl)

pub reveal_space : Closed (codes "reveal ") (keyword word.Reveal ∷ [])
reveal_space = spaced (keyword_piece 114 (codes "eveal") word.Reveal refl refl refl)

pub if_space : Closed (codes "if ") (keyword word.If ∷ [])
if_space = spaced (keyword_piece 105 (codes "f") word.If refl refl refl)

pub withdraw_space : Closed (codes "withdraw ") (keyword word.Withdraw ∷ [])
withdraw_space = spaced (keyword_piece 119 (codes "ithdraw") word.Withdraw refl refl refl)

pub split_space : Closed (codes "split ") (keyword word.Split ∷ [])
split_space = spaced (keyword_piece 115 (codes "plit") word.Split refl refl refl)

pub after_space : Closed (codes "after ") (keyword word.After ∷ [])
after_space = spaced (keyword_piece 97 (codes "fter") word.After refl refl refl)

pub secret_space : Closed (codes "secret ") (keyword word.Secret ∷ [])
secret_space = spaced (keyword_piece 115 (codes "ecret") word.Secret refl refl refl)

pub and_space : Closed (codes "and ") (keyword word.And ∷ [])
and_space = spaced (keyword_piece 97 (codes "nd") word.And refl refl refl)

pub not_space : Closed (codes "not ") (keyword word.Not ∷ [])
not_space = spaced (keyword_piece 110 (codes "ot") word.Not refl refl refl)

pub fee_space : Closed (codes "fee ") (keyword word.Fee ∷ [])
fee_space = spaced (keyword_piece 102 (codes "ee") word.Fee refl refl refl)
