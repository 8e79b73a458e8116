-- A text that is put together of parts is told by the lines of these.
use Rattle.std.proofs.Common.{◌≡◌, ℕ, List, [], ◌∷◌, ◌++◌, map, refl, sym, ap, ◌∙◌, append_assoc}
use Rattle.std.specs.Prelude.{flat_map}
use Rattle.std.specs.List.{AllByRecursion}
use Rattle.spec_text.specs.RunText.{newline}
use Rattle.theory_text.proofs.Lines.LineBytes.{lined}
use Rattle.theory_next_text.specs.Lines.{NextLine}
use Rattle.theory_next_text.specs.Tells.{Lines, Just, Then, OfEach}
use Rattle.theory_next_text.proofs.LinesRead.{line_text, IsLine}
use Rattle.theory_next_text.proofs.Once.{list_end, all_append}

abbrev pub text_of : List NextLine → List ℕ
text_of ls = lined (map line_text ls)

text_append : (xs ys : List NextLine) → text_of (xs ++ ys) ≡ text_of xs ++ text_of ys
text_append [] ys = refl
text_append (x ∷ xs) ys =
    ap (λ (rest : List ℕ). (line_text x ++ newline) ++ rest) (text_append xs ys)
    ∙ sym (append_assoc (line_text x ++ newline) (text_of xs) (text_of ys))

module _ (parties : List (List ℕ)) where
  -- lines that tell it, may be said, and have this text
  pub record Told (P : Lines) (text : List ℕ) : Type 0 where
    pub lines : List NextLine
    pub tells : P lines
    pub are : text ≡ text_of lines
    pub fine : AllByRecursion (IsLine parties) lines

  pub told_just : (ls : List NextLine) (text : List ℕ) → text ≡ text_of ls → AllByRecursion (IsLine parties) ls → Told (Just ls) text
  told_just ls text are fine = record { lines = ls; tells = refl; are = are; fine = fine }

  pub told_line : (l : NextLine) (text : List ℕ) → text ≡ line_text l ++ newline → IsLine parties l → Told (Just (l ∷ [])) text
  told_line l text are fine = told_just (l ∷ []) text (are ∙ sym (list_end (line_text l ++ newline))) (fine, tt)

  pub told_then : {P Q : Lines} (t u : List ℕ) → Told P t → Told Q u → Told (Then P Q) (t ++ u)
  told_then t u a b = record {
    lines = a.lines ++ b.lines;
    tells = record { first = a.lines; second = b.lines; one = a.tells; other = b.tells; are = refl };
    are = (λ i. a.are i ++ b.are i) ∙ sym (text_append a.lines b.lines);
    fine = all_append (IsLine parties) a.lines b.lines a.fine b.fine;
  }

  pub told_each : {A : Type 0} (P : A → Lines) (Q : A → Type 0) (text : A → List ℕ) → ((x : A) → Q x → Told (P x) (text x))
      → (xs : List A) → AllByRecursion Q xs → Told (OfEach P xs) (flat_map text xs)
  told_each P Q text f [] h = told_just [] [] refl tt
  told_each P Q text f (x ∷ xs) h = told_then (text x) (flat_map text xs) (f x h.0) (told_each P Q text f xs h.1)

  -- a line for each
  pub told_map : {A : Type 0} (make : A → NextLine) (Q : A → Type 0) (text : A → List ℕ) → ((x : A) → text x ≡ line_text (make x) ++ newline)
      → ((x : A) → Q x → IsLine parties (make x)) → (xs : List A) → AllByRecursion Q xs → Told (Just (map make xs)) (flat_map text xs)
  told_map make Q text f g xs h = told_just (map make xs) (flat_map text xs) (texts xs) (fines xs h)
    where
      texts : (ys : List _) → flat_map text ys ≡ text_of (map make ys)
      texts [] = refl
      texts (y ∷ ys) = λ i. f y i ++ texts ys i

      fines : (ys : List _) → AllByRecursion Q ys → AllByRecursion (IsLine parties) (map make ys)
      fines [] k = tt
      fines (y ∷ ys) k = (g y k.0, fines ys k.1)
