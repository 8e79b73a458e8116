-- Strings one after another: one of them, one more, and the first of them.
use Rattle.std.proofs.Common.{◌≡◌, ℕ, zero, suc, ◌+◌, ◌-◌, ◌<◌, ◌≤◌, List, [], ◌∷◌, ◌++◌, length, take, drop, get_or, refl, sym, ap, ◌∙◌, arith, length-append}
use Rattle.std.specs.Prelude.{slice_range}
use Rattle.std.proofs.lemmas.List.{get_or_default, take-append-le, drop-append-le, take-take, take_all, length-drop, length-take-le, drop-take}
use Rattle.std.proofs.Math.Seq.{drop-append_seam}
use Rattle.bm_hash.specs.Pieces.{pieces_from, start_at, AreEnds}

-- ---- ends

-- strings don't begin behind the end of the bytes
pub begins : (start : ℕ) (ends : List ℕ) (len : ℕ) → AreEnds start ends len → start ≤ len
begins start [] len is = omega (arith, is)
begins start (end ∷ ends) len is = let a = is.0 in let b = begins end ends len is.1 in omega arith

-- the string of this number begins before its end, which lies within the bytes
pub lies_within : (start : ℕ) (ends : List ℕ) (len k : ℕ) → AreEnds start ends len → k < length ends
    → (start_at start ends k ≤ get_or ends k 0) × (get_or ends k 0 ≤ len)
lies_within start [] len k is lt = absurd (omega (arith, lt))
lies_within start (end ∷ ends) len zero is lt = (is.0, begins end ends len is.1)
lies_within start (end ∷ ends) len (suc k) is lt = lies_within end ends len k is.1 (omega (arith, lt))

-- a string begins where the one before it ends
pub start_after : (start : ℕ) (ends : List ℕ) (k : ℕ) → k < length ends → start_at start ends (suc k) ≡ get_or ends k 0
start_after start [] k lt = absurd (omega (arith, lt))
start_after start (end ∷ ends) zero lt = refl
start_after start (end ∷ ends) (suc k) lt = start_after end ends k (omega (arith, lt))

-- the same by the number after it
pub start_before : (ends : List ℕ) (number before : ℕ) → number ≡ before + 1 → before < length ends → get_or ends before 0 ≡ start_at 0 ends number
start_before ends number before after lt =
    let next : number ≡ suc before = omega (arith, after) in
    sym (ap (start_at 0 ends) next ∙ start_after 0 ends before lt)

-- one string more would begin where the bytes end
pub ends_last : (start : ℕ) (ends : List ℕ) (len : ℕ) → AreEnds start ends len → len ≡ start_at start ends (length ends)
ends_last start [] len is = sym is
ends_last start (end ∷ ends) len is = ends_last end ends len is.1

-- ---- what stands there

pub length-pieces : (start : ℕ) (bytes ends : List ℕ) → length (pieces_from start bytes ends) ≡ length ends
length-pieces start bytes [] = refl
length-pieces start bytes (end ∷ ends) = ap suc (length-pieces end bytes ends)

-- a number of the strings is one of the ends
pub fewer : (bytes ends : List ℕ) (ps : List (List ℕ)) (k : ℕ) → pieces_from 0 bytes ends ≡ ps → k < length ps → k < length ends
fewer bytes ends ps k view lt = let same : length ps ≡ length ends = ap length (sym view) ∙ length-pieces 0 bytes ends in omega (arith, lt, same)

pub piece_at : (start : ℕ) (bytes ends : List ℕ) (k : ℕ) → k < length ends
    → get_or (pieces_from start bytes ends) k [] ≡ slice_range bytes (start_at start ends k) (get_or ends k 0)
piece_at start bytes [] k lt = absurd (omega (arith, lt))
piece_at start bytes (end ∷ ends) zero lt = refl
piece_at start bytes (end ∷ ends) (suc k) lt = piece_at end bytes ends k (omega (arith, lt))

-- a part of the bytes is the same where more bytes follow
part-append : (xs ys : List ℕ) (a b : ℕ) → a ≤ b → b ≤ length xs → slice_range (xs ++ ys) a b ≡ slice_range xs a b
part-append xs ys a b low high =
    ap (take (b - a)) (drop-append-le a xs ys (omega (arith, low, high)))
    ∙ take-append-le (b - a) (drop a xs) ys (let l = length-drop a xs in omega (arith, l, low, high))

-- and where the bytes behind it are cut off
part-take : (xs : List ℕ) (a b n : ℕ) → a ≤ b → b ≤ n → slice_range (take n xs) a b ≡ slice_range xs a b
part-take xs a b n low high =
    let whole : a + (n - a) ≡ n = omega (arith, low, high) in
    ap (take (b - a)) (ap (λ k. drop a (take k xs)) (sym whole) ∙ drop-take a (n - a) xs)
    ∙ take-take (b - a) (n - a) (drop a xs) (omega (arith, low, high))

-- ---- one more

pub pieces-push : (start : ℕ) (bytes ends more : List ℕ) → AreEnds start ends (length bytes)
    → pieces_from start (bytes ++ more) (ends ++ (length bytes + length more) ∷ []) ≡ pieces_from start bytes ends ++ more ∷ []
pieces-push start bytes [] more is =
    ap (λ l. l ∷ []) (
    ap (λ s. slice_range (bytes ++ more) s (length bytes + length more)) is
    ∙ ap (take (length bytes + length more - length bytes)) (drop-append_seam bytes more)
    ∙ take_all (length bytes + length more - length bytes) more (omega arith))
pieces-push start bytes (end ∷ ends) more is =
    ap (λ p. p ∷ pieces_from end (bytes ++ more) (ends ++ (length bytes + length more) ∷ []))
    (part-append bytes more start end is.0 (begins end ends (length bytes) is.1))
    ∙ ap (λ ps. slice_range bytes start end ∷ ps) (pieces-push end bytes ends more is.1)

pub are_ends-push : (start : ℕ) (ends : List ℕ) (len more : ℕ) → AreEnds start ends len → AreEnds start (ends ++ (len + more) ∷ []) (len + more)
are_ends-push start [] len more is = (omega (arith, is), refl)
are_ends-push start (end ∷ ends) len more is = (is.0, are_ends-push end ends len more is.1)

-- ---- the first of them

-- the strings behind lie at or behind where this one begins
start_grows : (start : ℕ) (ends : List ℕ) (len k : ℕ) → AreEnds start ends len → start ≤ start_at start ends k
start_grows start ends len zero is = omega arith
start_grows start [] len (suc k) is = omega arith
start_grows start (end ∷ ends) len (suc k) is = let a = is.0 in let b = start_grows end ends len k is.1 in omega arith

pub start_within : (start : ℕ) (ends : List ℕ) (len k : ℕ) → AreEnds start ends len → start_at start ends k ≤ len
start_within start ends len zero is = begins start ends len is
start_within start [] len (suc k) is = omega (arith, is)
start_within start (end ∷ ends) len (suc k) is = start_within end ends len k is.1

pub pieces-take : (start : ℕ) (bytes ends : List ℕ) (len k : ℕ) → AreEnds start ends len
    → pieces_from start (take (start_at start ends k) bytes) (take k ends) ≡ take k (pieces_from start bytes ends)
pieces-take start bytes ends len zero is = refl
pieces-take start bytes [] len (suc k) is = refl
pieces-take start bytes (end ∷ ends) len (suc k) is =
    ap (λ p. p ∷ pieces_from end (take (start_at end ends k) bytes) (take k ends))
    (part-take bytes start end (start_at end ends k) is.0 (start_grows end ends len k is.1))
    ∙ ap (λ ps. slice_range bytes start end ∷ ps) (pieces-take end bytes ends len k is.1)

pub are_ends-take : (start : ℕ) (ends : List ℕ) (len k : ℕ) → AreEnds start ends len → AreEnds start (take k ends) (start_at start ends k)
are_ends-take start ends len zero is = refl
are_ends-take start [] len (suc k) is = refl
are_ends-take start (end ∷ ends) len (suc k) is = (is.0, are_ends-take end ends len k is.1)

-- ---- the same of what the code has at hand

-- as many strings as ends
pub as_many : (bytes ends : List ℕ) (ps : List (List ℕ)) → pieces_from 0 bytes ends ≡ ps → length ends ≡ length ps
as_many bytes ends ps view = sym (length-pieces 0 bytes ends) ∙ ap length view

-- a string from where it begins to its end
pub piece_between : (bytes ends : List ℕ) (k s e : ℕ) → AreEnds 0 ends (length bytes) → k < length ends → s ≡ start_at 0 ends k → e ≡ get_or ends k e
    → (s ≤ e) × (e ≤ length bytes) × (slice_range bytes s e ≡ get_or (pieces_from 0 bytes ends) k [])
piece_between bytes ends k s e is lt begin end =
    let w = lies_within 0 ends (length bytes) k is lt in
    let low = w.0 in
    let high = w.1 in
    let ends_there : e ≡ get_or ends k 0 = end ∙ get_or_default ends k e 0 lt in (
      omega (arith, low, begin, ends_there),
      omega (arith, high, ends_there),
      ap (λ a. slice_range bytes a e) begin ∙ ap (slice_range bytes (start_at 0 ends k)) ends_there ∙ sym (piece_at 0 bytes ends k lt),
    )

pub pushed : (bytes ends more bytes_new ends_new : List ℕ) (n : ℕ) → AreEnds 0 ends (length bytes) → bytes_new ≡ bytes ++ more → ends_new
    ≡ ends ++ n ∷ [] → n ≡ length bytes_new
    → AreEnds 0 ends_new (length bytes_new) × (pieces_from 0 bytes_new ends_new ≡ pieces_from 0 bytes ends ++ more ∷ [])
pushed bytes ends more bytes_new ends_new n is b e at =
    let len : length bytes_new ≡ length bytes + length more = ap length b ∙ length-append bytes more in
    let end : ends_new ≡ ends ++ (length bytes + length more) ∷ [] = e ∙ ap (λ k. ends ++ k ∷ []) (at ∙ len) in
    (rw (end, len) (are_ends-push 0 ends (length bytes) (length more) is), rw (end, b) (pieces-push 0 bytes ends more is))

pub cut : (bytes ends bytes_new ends_new : List ℕ) (count end : ℕ) → AreEnds 0 ends (length bytes) → end ≡ start_at 0 ends count → bytes_new
    ≡ take end bytes → ends_new ≡ take count ends
    → AreEnds 0 ends_new (length bytes_new) × (pieces_from 0 bytes_new ends_new ≡ take count (pieces_from 0 bytes ends))
cut bytes ends bytes_new ends_new count end is at b e =
    let high : end ≤ length bytes = (let w = start_within 0 ends (length bytes) count is in omega (arith, w, at)) in
    let len : length bytes_new ≡ start_at 0 ends count = ap length b ∙ length-take-le end bytes high ∙ at in
    (rw (e, len) (are_ends-take 0 ends (length bytes) count is), rw (b, e, at) (pieces-take 0 bytes ends (length bytes) count is))
