-- Lines of any kind are read from their text, where each is read from its words.
use Rattle.std.proofs.Common.{◌≡◌, ℕ, List, [], ◌∷◌, ◌++◌, map, Option, refl, sym, ap, ◌∙◌, append_assoc}
use Rattle.std.specs.Prelude.{flat_map}
use Rattle.std.specs.List.{AllByRecursion}
use Rattle.spec_text.specs.Lines.{parts_of, lines_of}
use Rattle.spec_text.specs.RunText.{newline}
use Rattle.spec_text.specs.Words.{all_of}
use Rattle.theory_text.proofs.Options.{some}
use Rattle.theory_text.proofs.Lines.LineBytes.{ends_line, lined, lines_again}
use Rattle.theory_text.proofs.Lines.Separated.{Lacks}
use Rattle.theory_play_text.specs.Lines.{Words}
use Rattle.theory_play_text.proofs.LineWords.{is_blank, ArePlain, line_of, cut_line, line_ends}

-- how a line is written, by its first word and the others
pub record Written (L : Type 0) : Type 0 where
  pub word : L → List ℕ
  pub words : L → Words

module _ {L : Type 0} (w : Written L) where
  abbrev pub line_text : L → List ℕ
  line_text l = line_of (w.word l ∷ w.words l)

  abbrev pub text_of : List L → List ℕ
  text_of [] = []
  text_of (l ∷ ls) = (line_text l ++ newline) ++ text_of ls

  pub text_lined : (ls : List L) → text_of ls ≡ lined (map line_text ls)
  text_lined [] = refl
  text_lined (l ∷ ls) = ap (λ (rest : List ℕ). (line_text l ++ newline) ++ rest) (text_lined ls)

  pub text_append : (xs ys : List L) → text_of (xs ++ ys) ≡ text_of xs ++ text_of ys
  text_append [] ys = refl
  text_append (x ∷ xs) ys =
      ap (λ (rest : List ℕ). (line_text x ++ newline) ++ rest) (text_append xs ys)
      ∙ sym (append_assoc (line_text x ++ newline) (text_of xs) (text_of ys))

  pub text_map : {A : Type 0} (make : A → L) (print : A → List ℕ) → ((x : A) → print x ≡ line_text (make x) ++ newline) → (xs : List A)
      → flat_map print xs ≡ text_of (map make xs)
  text_map make print f [] = refl
  text_map make print f (x ∷ xs) = λ i. f x i ++ text_map make print f xs i

  pub text_flat : {A : Type 0} (make : A → List L) (print : A → List ℕ) → ((x : A) → print x ≡ text_of (make x)) → (xs : List A)
      → flat_map print xs ≡ text_of (flat_map make xs)
  text_flat make print f [] = refl
  text_flat make print f (x ∷ xs) = (λ i. f x i ++ text_flat make print f xs i) ∙ sym (text_append (make x) (flat_map make xs))

  module _ (read : Words → Option L) (P : L → Type 0) (plain : (l : L) → P l → ArePlain (w.word l ∷ w.words l))
      (back : (l : L) → P l → read (w.word l ∷ w.words l) ≡ some l) where
    abbrev pub read_line : List ℕ → Option L
    read_line line = read (parts_of is_blank line)

    lines_end : (ls : List L) → AllByRecursion P ls → AllByRecursion (Lacks ends_line) (map line_text ls)
    lines_end [] h = tt
    lines_end (l ∷ ls) h = (line_ends (w.word l ∷ w.words l) (plain l h.0), lines_end ls h.1)

    line_back : (l : L) → P l → read_line (line_text l) ≡ some l
    line_back l h = ap read (cut_line (w.word l) (w.words l) (plain l h)) ∙ back l h

    lines_back : (ls : List L) → AllByRecursion P ls → all_of read_line (map line_text ls) ≡ some ls
    lines_back [] h = refl
    lines_back (l ∷ ls) h = rw (line_back l h.0, lines_back ls h.1) refl

    -- the lines of their text are read as what they say
    pub text_back : (ls : List L) → AllByRecursion P ls → all_of read_line (lines_of (text_of ls)) ≡ some ls
    text_back ls h =
        ap (λ (t : List ℕ). all_of read_line (lines_of t)) (text_lined ls)
        ∙ (ap (all_of read_line) (lines_again (map line_text ls) (lines_end ls h)) ∙ lines_back ls h)

-- ---- where the end of a line stands

pub two_words : (a b rest : List ℕ) → a ++ (32 ∷ (b ++ rest)) ≡ (a ++ (32 ∷ b)) ++ rest
two_words a b rest = sym (append_assoc a (32 ∷ b) rest)

pub three_words : (a b c rest : List ℕ) → a ++ (32 ∷ (b ++ (32 ∷ (c ++ rest)))) ≡ (a ++ (32 ∷ (b ++ (32 ∷ c)))) ++ rest
three_words a b c rest = ap (λ (r : List ℕ). a ++ (32 ∷ r)) (two_words b c rest) ∙ two_words a (b ++ (32 ∷ c)) rest
