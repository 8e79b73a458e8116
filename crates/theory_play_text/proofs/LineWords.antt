-- A line is its words with single spaces between them.
use Rattle.std.proofs.Common.{◌≡◌, ℕ, Bool, true, not, List, [], ◌∷◌, ◌++◌, map, refl, ap, ◌∙◌, append_assoc, append-nil}
use Rattle.std.specs.Prelude.{◌==◌, ◌&&◌, flat_map, codes}
use Rattle.std.specs.List.{list_all, AllByRecursion}
use Rattle.spec_text.specs.Lines.{is_space, parts_of}
use Rattle.theory_text.proofs.ListFacts.{and_left, and_right, or_left, not_yes}
use Rattle.theory_text.proofs.Lines.LineBytes.{ends_line, LineWord}
use Rattle.theory_text.proofs.Lines.Separated.{Lacks, lacks_append, part_last, part_more}

abbrev pub is_blank : ℕ → Bool
is_blank b = b == 32

-- a word without a space and without an end of a line; it may be empty
pub record IsPlain (word : List ℕ) : Type 0 where
  pub spaces : Lacks is_blank word
  pub ends : Lacks ends_line word

abbrev pub ArePlain : List (List ℕ) → Type 0
ArePlain words = AllByRecursion IsPlain words

lacks_less : (xs : List ℕ) → Lacks is_space xs → Lacks is_blank xs
lacks_less [] h = tt
lacks_less (x ∷ xs) h = (or_left (x == 32) (x == 9) h.0, lacks_less xs h.1)

pub plain_word : (word : List ℕ) → LineWord word → IsPlain word
plain_word word h = record { spaces = lacks_less word h.is.lacks; ends = h.ends }

pub lacks_where : (test : ℕ → Bool) (bytes : List ℕ) → list_all (λ b. not (test b)) bytes ≡ true → Lacks test bytes
lacks_where test [] h = tt
lacks_where test (b ∷ bytes) h = (not_yes _ (and_left _ _ h), lacks_where test bytes (and_right (not (test b)) _ h))

abbrev pub is_plain_word : List ℕ → Bool
is_plain_word word = list_all (λ b. not (is_blank b)) word && list_all (λ b. not (ends_line b)) word

-- a word that is known
pub known_word : (word : List ℕ) → is_plain_word word ≡ true → IsPlain word
known_word word h = record {
  spaces = lacks_where is_blank word (and_left _ _ h);
  ends = lacks_where ends_line word (and_right (list_all (λ b. not (is_blank b)) word) _ h);
}

-- ---- lines

abbrev pub line_of : List (List ℕ) → List ℕ
line_of [] = []
line_of (word ∷ []) = word
line_of (word ∷ next ∷ words) = word ++ (32 ∷ line_of (next ∷ words))

-- its words are read from it
pub cut_line : (word : List ℕ) (words : List (List ℕ)) → ArePlain (word ∷ words) → parts_of is_blank (line_of (word ∷ words)) ≡ word ∷ words
cut_line word [] h = part_last is_blank word h.0.spaces
cut_line word (next ∷ words) h =
    part_more is_blank word 32 (line_of (next ∷ words)) h.0.spaces refl ∙ ap (λ (ws : List (List ℕ)). word ∷ ws) (cut_line next words h.1)

pub line_ends : (words : List (List ℕ)) → ArePlain words → Lacks ends_line (line_of words)
line_ends [] h = tt
line_ends (word ∷ []) h = h.0.ends
line_ends (word ∷ next ∷ words) h = lacks_append ends_line word (32 ∷ line_of (next ∷ words)) h.0.ends (refl, line_ends (next ∷ words) h.1)

-- ---- many words

module _ {X : Type 0} (text : X → List ℕ) where
  abbrev pub spaced_each : List X → List ℕ
  spaced_each xs = flat_map (λ x. codes " " ++ text x) xs

  -- they end a line
  pub all_line : (word : List ℕ) (xs : List X) → word ++ spaced_each xs ≡ line_of (word ∷ map text xs)
  all_line word [] = append-nil word
  all_line word (x ∷ xs) = ap (λ (rest : List ℕ). word ++ (32 ∷ rest)) (all_line (text x) xs)

  -- more stands behind them
  pub then_line : (word : List ℕ) (xs : List X) (next : List ℕ) (words : List (List ℕ))
      → word ++ (spaced_each xs ++ (32 ∷ line_of (next ∷ words))) ≡ line_of (word ∷ (map text xs ++ next ∷ words))
  then_line word [] next words = refl
  then_line word (x ∷ xs) next words =
      ap (λ (rest : List ℕ). word ++ (32 ∷ rest))
      (append_assoc (text x) (spaced_each xs) (32 ∷ line_of (next ∷ words)) ∙ then_line (text x) xs next words)

module _ {A B : Type 0} (first : A → List ℕ) (second : B → List ℕ) where
  abbrev pub pair_words : List (A × B) → List (List ℕ)
  pair_words [] = []
  pair_words (p ∷ ps) = first p.0 ∷ second p.1 ∷ pair_words ps

  abbrev pub spaced_pairs : List (A × B) → List ℕ
  spaced_pairs ps = flat_map (λ p. codes " " ++ (first p.0 ++ (codes " " ++ second p.1))) ps

  pub pairs_line : (word : List ℕ) (ps : List (A × B)) → word ++ spaced_pairs ps ≡ line_of (word ∷ pair_words ps)
  pairs_line word [] = append-nil word
  pairs_line word (p ∷ ps) =
      ap (λ (rest : List ℕ). word ++ (32 ∷ rest))
      (append_assoc (first p.0) (32 ∷ second p.1) (spaced_pairs ps)
      ∙ ap (λ (rest : List ℕ). first p.0 ++ (32 ∷ rest)) (pairs_line (second p.1) ps))

  pub pairs_then : (word : List ℕ) (ps : List (A × B)) (next : List ℕ) (words : List (List ℕ))
      → word ++ (spaced_pairs ps ++ (32 ∷ line_of (next ∷ words))) ≡ line_of (word ∷ (pair_words ps ++ next ∷ words))
  pairs_then word [] next words = refl
  pairs_then word (p ∷ ps) next words =
      ap (λ (rest : List ℕ). word ++ (32 ∷ rest))
      (append_assoc (first p.0 ++ (32 ∷ second p.1)) (spaced_pairs ps) (32 ∷ line_of (next ∷ words))
      ∙ (append_assoc (first p.0) (32 ∷ second p.1) (spaced_pairs ps ++ (32 ∷ line_of (next ∷ words)))
      ∙ ap (λ (rest : List ℕ). first p.0 ++ (32 ∷ rest)) (pairs_then (second p.1) ps next words)))

pub plain_append : (xs ys : List (List ℕ)) → ArePlain xs → ArePlain ys → ArePlain (xs ++ ys)
plain_append [] ys h k = k
plain_append (x ∷ xs) ys h k = (h.0, plain_append xs ys h.1 k)

pub plain_map : {X : Type 0} (P : X → Type 0) (text : X → List ℕ) → ((x : X) → P x → IsPlain (text x)) → (xs : List X)
    → AllByRecursion P xs → ArePlain (map text xs)
plain_map P text f [] h = tt
plain_map P text f (x ∷ xs) h = (f x h.0, plain_map P text f xs h.1)

pub plain_pairs : {A B : Type 0} (P : A × B → Type 0) (first : A → List ℕ) (second : B → List ℕ)
    → ((p : A × B) → P p → IsPlain (first p.0) × IsPlain (second p.1)) → (ps : List (A × B)) → AllByRecursion P ps
    → ArePlain (pair_words first second ps)
plain_pairs P first second f [] h = tt
plain_pairs P first second f (p ∷ ps) h = ((f p h.0).0, ((f p h.0).1, plain_pairs P first second f ps h.1))
