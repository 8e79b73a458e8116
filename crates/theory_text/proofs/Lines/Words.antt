-- How long the words of a line are, and how many.
use Rattle.std.proofs.Common.{◌≡◌, ℕ, suc, ◌+◌, ◌*◌, ◌≤◌, Bool, true, false, List, [], ◌∷◌, length, refl, arith}
use Rattle.spec_text.specs.Lines.{onto_first, cut_byte, parts_of, onto_words, filled, is_space, words_of}

-- the bytes of parts, all together
abbrev pub total : List (List ℕ) → ℕ
total [] = 0
total (w ∷ ws) = length w + total ws

first_total : (b : ℕ) (ps : List (List ℕ)) → total (onto_first b ps) ≡ suc (total ps)
first_total b [] = omega arith
first_total b (p ∷ ps) = omega arith

first_some : (b : ℕ) (ps : List (List ℕ)) → 1 ≤ length ps → length (onto_first b ps) ≡ length ps
first_some b [] h = absurd (omega arith)
first_some b (p ∷ ps) h = refl

-- a part and a cut for each, but for one cut
pub record Cut (n : ℕ) (ps : List (List ℕ)) : Type 0 where
  pub size : total ps + length ps ≡ n + 1
  pub some : 1 ≤ length ps

cut_more : (t : Bool) (b n : ℕ) (ps : List (List ℕ)) → Cut n ps → Cut (suc n) (cut_byte t b ps)
cut_more true b n ps h = record { size = omega (arith, h.size); some = omega arith }
cut_more false b n ps h =
    let l = first_some b ps h.some in let t = first_total b ps in record { size = omega (arith, h.size, l, t); some = omega (arith, l, h.some) }

pub cut_is : (p : ℕ → Bool) (xs : List ℕ) → Cut (length xs) (parts_of p xs)
cut_is p [] = record { size = refl; some = omega arith }
cut_is p (x ∷ xs) = cut_more (p x) x (length xs) (parts_of p xs) (cut_is p xs)

-- words are parts that aren't empty
pub record Filled (ps ws : List (List ℕ)) : Type 0 where
  pub same : total ws ≡ total ps
  pub few : length ws ≤ length ps
  pub some : length ws ≤ total ws

filled_more : (p : List ℕ) (ps ws : List (List ℕ)) → Filled ps ws → Filled (p ∷ ps) (onto_words p ws)
filled_more [] ps ws h = record { same = omega (arith, h.same); few = omega (arith, h.few); some = h.some }
filled_more (b ∷ bs) ps ws h = record { same = omega (arith, h.same); few = omega (arith, h.few); some = omega (arith, h.some) }

pub filled_is : (ps : List (List ℕ)) → Filled ps (filled ps)
filled_is [] = record { same = refl; few = omega arith; some = omega arith }
filled_is (p ∷ ps) = filled_more p ps (filled ps) (filled_is ps)

-- words are no longer than their line
pub total-words : (line : List ℕ) → total (words_of line) ≤ length line
total-words line = let c = cut_is is_space line in let f = filled_is (parts_of is_space line) in omega (arith, c.size, c.some, f.same)

-- and a byte stands between two
pub count-words : (line : List ℕ) → 2 * length (words_of line) ≤ length line + 1
count-words line = let c = cut_is is_space line in let f = filled_is (parts_of is_space line) in omega (arith, c.size, f.same, f.few, f.some)
