-- Texts of whole lines, and which of their lines aren't read over in a file of secrets.
use Rattle.std.proofs.Common.{◌≡◌, ℕ, List, [], ◌∷◌, ◌++◌, Bool, true, false, refl, sym, ap, ◌∙◌, append_assoc, append-nil, inl, inr, cond}
use Rattle.std.specs.Prelude.{flat_map, filter}
use Rattle.std.specs.List.{AllByRecursion}
use Rattle.spec_text.specs.RunText.{newline}
use Rattle.spec_deal.specs.DealText as print
use Rattle.theory_calculus.specs.Members.{Is_in}
use Rattle.theory_text.proofs.Lines.LineBytes.{ends_line, lined, lines_again, spaced_ends}
use Rattle.theory_text.proofs.Lines.Separated.{Lacks, spaced}
use Rattle.theory_play_text.proofs.LegalSteps.{by_append}
use Rattle.theory_state_text.specs.Secrets.{is_spoken, spoken}
use Rattle.theory_state_text.proofs.Ends.{Ends}

-- a text of whole lines, of which these aren't read over
pub record Lined (text : List ℕ) (said : List (List ℕ)) : Type 0 where
  pub lines : List (List ℕ)
  pub ends : AllByRecursion (Lacks ends_line) lines
  pub is : text ≡ lined lines
  pub speaks : filter is_spoken lines ≡ said

-- they are read again
pub spoken_of : (text : List ℕ) (said : List (List ℕ)) → Lined text said → spoken text ≡ said
spoken_of text said h = ap spoken h.is ∙ ap (filter is_spoken) (lines_again h.lines h.ends) ∙ h.speaks

-- ---- texts behind one another

pub none : Lined [] []
none = record { lines = []; ends = tt; is = refl; speaks = refl }

lined_append : (xs ys : List (List ℕ)) → lined (xs ++ ys) ≡ lined xs ++ lined ys
lined_append [] ys = refl
lined_append (x ∷ xs) ys =
    ap (λ (rest : List ℕ). (x ++ newline) ++ rest) (lined_append xs ys) ∙ sym (append_assoc (x ++ newline) (lined xs) (lined ys))

filter_append : (p : List ℕ → Bool) (xs ys : List (List ℕ)) → filter p (xs ++ ys) ≡ filter p xs ++ filter p ys
filter_append p [] ys = refl
filter_append p (x ∷ xs) ys = by_test (p x) (filter_append p xs ys)
  where
    by_test : (b : Bool) → filter p (xs ++ ys) ≡ filter p xs ++ filter p ys
        → cond b (x ∷ filter p (xs ++ ys)) (filter p (xs ++ ys)) ≡ cond b (x ∷ filter p xs) (filter p xs) ++ filter p ys
    by_test true h = ap (λ (r : List (List ℕ)). x ∷ r) h
    by_test false h = h

pub together : (t u : List ℕ) (a b : List (List ℕ)) → Lined t a → Lined u b → Lined (t ++ u) (a ++ b)
together t u a b h k = record {
  lines = h.lines ++ k.lines;
  ends = by_append (Lacks ends_line) h.lines k.lines h.ends k.ends;
  is = (λ i. h.is i ++ k.is i) ∙ sym (lined_append h.lines k.lines);
  speaks = filter_append is_spoken h.lines k.lines ∙ (λ i. h.speaks i ++ k.speaks i);
}

-- each of a list prints lines that are read over
pub all_quiet : {X : Type 0} (print : X → List ℕ) (xs : List X) → ((x : X) → Is_in x xs → Lined (print x) []) → Lined (flat_map print xs) []
all_quiet print [] f = none
all_quiet print (x ∷ xs) f =
    together (print x) (flat_map print xs) [] [] (f x (inl refl)) (all_quiet print xs (λ y i. f y (inr i)))

-- ---- one line

pub quiet : (line : List ℕ) → Ends line → is_spoken line ≡ false → Lined (line ++ newline) []
quiet line h e = record {
  lines = line ∷ [];
  ends = (h, tt);
  is = sym (append-nil (line ++ newline));
  speaks = ap (λ (b : Bool). cond b (line ∷ []) []) e;
}

pub loud : (line : List ℕ) → Ends line → is_spoken line ≡ true → Lined (line ++ newline) (line ∷ [])
loud line h e = record {
  lines = line ∷ [];
  ends = (h, tt);
  is = sym (append-nil (line ++ newline));
  speaks = ap (λ (b : Bool). cond b (line ∷ []) []) e;
}

-- words with spaces between them
pub line_spaced : (word : List ℕ) (words : List (List ℕ)) → print.line_of (word ∷ words) ≡ spaced (word ∷ words) ++ newline
line_spaced word [] = ap (λ (w : List ℕ). w ++ newline) (sym (append-nil word))
line_spaced word (next ∷ words) =
    ap (λ (r : List ℕ). word ++ (32 ∷ r)) (line_spaced next words)
    ∙ sym (append_assoc word (32 ∷ spaced (next ∷ words)) newline)

pub quiet_words : (word : List ℕ) (words : List (List ℕ)) → AllByRecursion (Lacks ends_line) (word ∷ words)
    → is_spoken (spaced (word ∷ words)) ≡ false → Lined (print.line_of (word ∷ words)) []
quiet_words word words h e =
    let l = quiet (spaced (word ∷ words)) (spaced_ends (word ∷ words) h) e in
    record { lines = l.lines; ends = l.ends; is = line_spaced word words ∙ l.is; speaks = l.speaks }

pub loud_words : (word : List ℕ) (words : List (List ℕ)) → AllByRecursion (Lacks ends_line) (word ∷ words)
    → is_spoken (spaced (word ∷ words)) ≡ true → Lined (print.line_of (word ∷ words)) (spaced (word ∷ words) ∷ [])
loud_words word words h e =
    let l = loud (spaced (word ∷ words)) (spaced_ends (word ∷ words) h) e in
    record { lines = l.lines; ends = l.ends; is = line_spaced word words ∙ l.is; speaks = l.speaks }
