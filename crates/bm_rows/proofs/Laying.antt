-- Lists one after another: one of them, and one more.
use Rattle.std.proofs.Common.{◌≡◌, ℕ, zero, suc, ◌+◌, ◌-◌, ◌<◌, ◌≤◌, List, [], ◌∷◌, ◌++◌, length, take, drop, get_or, refl, sym, ap, ◌∙◌, arith, length-append}
use Rattle.std.specs.Prelude.{slice_range}
use Rattle.std.proofs.lemmas.List.{get_or_default, take-append-le, drop-append-le, take_all, length-drop}
use Rattle.std.proofs.Math.Seq.{drop-append_seam}
use Rattle.bm_rows.specs.Laid.{rows_from, start_at, AreEnds}

-- ---- ends

-- lists don't begin behind the end of the cells
begins : (start : ℕ) (ends : List ℕ) (total : ℕ) → AreEnds start ends total → start ≤ total
begins start [] total is = omega (arith, is)
begins start (end ∷ ends) total is = let a = is.0 in let b = begins end ends total is.1 in omega arith

-- the list of this number begins before its end, which lies within the cells
lies_within : (start : ℕ) (ends : List ℕ) (total k : ℕ) → AreEnds start ends total → k < length ends
    → (start_at start ends k ≤ get_or ends k 0) × (get_or ends k 0 ≤ total)
lies_within start [] total k is lt = absurd (omega (arith, lt))
lies_within start (end ∷ ends) total zero is lt = (is.0, begins end ends total is.1)
lies_within start (end ∷ ends) total (suc k) is lt = lies_within end ends total k is.1 (omega (arith, lt))

-- a list begins where the one before it ends
start_after : (start : ℕ) (ends : List ℕ) (k : ℕ) → k < length ends → start_at start ends (suc k) ≡ get_or ends k 0
start_after start [] k lt = absurd (omega (arith, lt))
start_after start (end ∷ ends) zero lt = refl
start_after start (end ∷ ends) (suc k) lt = start_after end ends k (omega (arith, lt))

-- the same by the number after it
pub start_before : (ends : List ℕ) (number before : ℕ) → number ≡ before + 1 → before < length ends → get_or ends before 0 ≡ start_at 0 ends number
start_before ends number before after lt =
    let next : number ≡ suc before = omega (arith, after) in
    sym (ap (start_at 0 ends) next ∙ start_after 0 ends before lt)

-- ---- what stands there

length-rows : {T : Type 0} (start : ℕ) (cells : List T) (ends : List ℕ) → length (rows_from start cells ends) ≡ length ends
length-rows start cells [] = refl
length-rows start cells (end ∷ ends) = ap suc (length-rows end cells ends)

row_at : {T : Type 0} (start : ℕ) (cells : List T) (ends : List ℕ) (k : ℕ) (d : List T) → k < length ends
    → get_or (rows_from start cells ends) k d ≡ slice_range cells (start_at start ends k) (get_or ends k 0)
row_at start cells [] k d lt = absurd (omega (arith, lt))
row_at start cells (end ∷ ends) zero d lt = refl
row_at start cells (end ∷ ends) (suc k) d lt = row_at end cells ends k d (omega (arith, lt))

-- a part of the cells is the same where more cells follow
part-append : {T : Type 0} (xs ys : List T) (a b : ℕ) → a ≤ b → b ≤ length xs → slice_range (xs ++ ys) a b ≡ slice_range xs a b
part-append xs ys a b low high =
    ap (take (b - a)) (drop-append-le a xs ys (omega (arith, low, high)))
    ∙ take-append-le (b - a) (drop a xs) ys (let l = length-drop a xs in omega (arith, l, low, high))

-- ---- one more

rows-push : {T : Type 0} (start : ℕ) (cells : List T) (ends : List ℕ) (more : List T) → AreEnds start ends (length cells)
    → rows_from start (cells ++ more) (ends ++ (length cells + length more) ∷ []) ≡ rows_from start cells ends ++ more ∷ []
rows-push start cells [] more is =
    ap (λ l. l ∷ []) (
    ap (λ s. slice_range (cells ++ more) s (length cells + length more)) is
    ∙ ap (take (length cells + length more - length cells)) (drop-append_seam cells more)
    ∙ take_all (length cells + length more - length cells) more (omega arith))
rows-push start cells (end ∷ ends) more is =
    ap (λ row. row ∷ rows_from end (cells ++ more) (ends ++ (length cells + length more) ∷ []))
    (part-append cells more start end is.0 (begins end ends (length cells) is.1))
    ∙ ap (λ rows. slice_range cells start end ∷ rows) (rows-push end cells ends more is.1)

are_ends-push : (start : ℕ) (ends : List ℕ) (total more : ℕ) → AreEnds start ends total → AreEnds start (ends ++ (total + more) ∷ []) (total + more)
are_ends-push start [] total more is = (omega (arith, is), refl)
are_ends-push start (end ∷ ends) total more is = (is.0, are_ends-push end ends total more is.1)

-- ---- the same of what the code has at hand

-- as many lists as ends
pub as_many : {T : Type 0} (cells : List T) (ends : List ℕ) (rows : List (List T)) → rows_from 0 cells ends ≡ rows → length ends ≡ length rows
as_many cells ends rows view = sym (length-rows 0 cells ends) ∙ ap length view

-- a number of the lists is one of the ends
pub fewer : {T : Type 0} (cells : List T) (ends : List ℕ) (rows : List (List T)) (k : ℕ) → rows_from 0 cells ends ≡ rows → k < length rows → k < length ends
fewer cells ends rows k view lt = let same = as_many cells ends rows view in omega (arith, lt, same)

-- a list from where it begins to its end
pub row_between : {T : Type 0} (cells : List T) (ends : List ℕ) (k s e : ℕ) → AreEnds 0 ends (length cells) → k < length ends → s
    ≡ start_at 0 ends k → e ≡ get_or ends k e
    → (s ≤ e) × (e ≤ length cells) × ((d : List T) → slice_range cells s e ≡ get_or (rows_from 0 cells ends) k d)
row_between cells ends k s e is lt begin end =
    let w = lies_within 0 ends (length cells) k is lt in
    let low = w.0 in
    let high = w.1 in
    let ends_there : e ≡ get_or ends k 0 = end ∙ get_or_default ends k e 0 lt in (
      omega (arith, low, begin, ends_there),
      omega (arith, high, ends_there),
      λ d. ap (λ a. slice_range cells a e) begin ∙ ap (slice_range cells (start_at 0 ends k)) ends_there ∙ sym (row_at 0 cells ends k d lt),
    )

pub pushed : {T : Type 0} (cells : List T) (ends : List ℕ) (more cells_new : List T) (ends_new : List ℕ) (n : ℕ)
    → AreEnds 0 ends (length cells) → cells_new ≡ cells ++ more → ends_new ≡ ends ++ n ∷ [] → n ≡ length cells_new
    → AreEnds 0 ends_new (length cells_new) × (rows_from 0 cells_new ends_new ≡ rows_from 0 cells ends ++ more ∷ [])
pushed cells ends more cells_new ends_new n is c e at =
    let total : length cells_new ≡ length cells + length more = ap length c ∙ length-append cells more in
    let end : ends_new ≡ ends ++ (length cells + length more) ∷ [] = e ∙ ap (λ k. ends ++ k ∷ []) (at ∙ total) in
    (rw (end, total) (are_ends-push 0 ends (length cells) (length more) is), rw (end, c) (rows-push 0 cells ends more is))
