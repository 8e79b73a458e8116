-- Words of a line, taken from its end, and lines that are put together.
use Rattle.std.proofs.Common.{◌≡◌, ℕ, List, [], ◌∷◌, ◌++◌, refl, ap, ◌∙◌, append_assoc}
use Rattle.std.specs.Prelude.{flat_map}
use Rattle.std.specs.Fmt.{decimal}
use Rattle.std.specs.List.{AllByRecursion}
use Rattle.spec_text.specs.Words.{a_name, all_of}
use Rattle.spec_next.specs.Together.{spaced}
use Rattle.theory_text.proofs.Options.{some}
use Rattle.theory_play_text.specs.Lines.{Words}
use Rattle.theory_play_text.specs.Printable.{IsWide, IsNamed}
use Rattle.theory_play_text.proofs.LineWords.{ArePlain, line_of}
use Rattle.theory_play_text.proofs.WordsBack.{number_back, number_begins, name_back, name_plain}
use Rattle.theory_next_text.specs.Missing.{last_of, a_number}

-- ---- from the end

abbrev pub Ended : Type 0
Ended = Words × List ℕ

-- words before others don't change how these end
pub last_more : (before : Words) (word : List ℕ) (words front : Words) (last : List ℕ) → last_of (word ∷ words) ≡ some (front, last)
    → last_of (before ++ word ∷ words) ≡ some (before ++ front, last)
last_more [] word words front last h = h
last_more (w ∷ ws) word words front last h = rw (last_more ws word words front last h) refl

-- the last of them
pub last_word : (before : Words) (word : List ℕ) → last_of (before ++ word ∷ []) ≡ some (before ++ [], word)
last_word before word = last_more before word [] [] word refl

pub append_none : (xs : Words) → xs ++ [] ≡ xs
append_none [] = refl
append_none (x ∷ xs) = ap (λ (ys : Words). x ∷ ys) (append_none xs)

pub number_there : (n : ℕ) → IsWide n → a_number (decimal n) ≡ some n
number_there n h = rw (number_begins n h, number_back n h) refl

-- ---- names

pub names_back : (ps : List (List ℕ)) → AllByRecursion IsNamed ps → all_of a_name ps ≡ some ps
names_back [] h = refl
names_back (p ∷ ps) h = rw (name_back p h.0, names_back ps h.1) refl

pub names_plain : (ps : List (List ℕ)) → AllByRecursion IsNamed ps → ArePlain ps
names_plain [] h = tt
names_plain (p ∷ ps) h = (name_plain p h.0, names_plain ps h.1)

-- ---- lines

-- names in the middle of a line
pub names_then : (word : List ℕ) (ps : List (List ℕ)) (next : List ℕ) (words : Words)
    → word ++ (flat_map spaced ps ++ (32 ∷ line_of (next ∷ words))) ≡ line_of (word ∷ (ps ++ next ∷ words))
names_then word [] next words = refl
names_then word (p ∷ ps) next words =
    ap (λ (rest : List ℕ). word ++ (32 ∷ rest))
    (append_assoc p (flat_map spaced ps) (32 ∷ line_of (next ∷ words)) ∙ names_then p ps next words)

-- a line behind a line
pub line_append : (x : List ℕ) (xs : Words) (y : List ℕ) (ys : Words)
    → line_of (x ∷ xs) ++ (32 ∷ line_of (y ∷ ys)) ≡ line_of (x ∷ (xs ++ y ∷ ys))
line_append x [] y ys = refl
line_append x (z ∷ zs) y ys =
    append_assoc x (32 ∷ line_of (z ∷ zs)) (32 ∷ line_of (y ∷ ys))
    ∙ ap (λ (rest : List ℕ). x ++ (32 ∷ rest)) (line_append z zs y ys)
