-- Byte strings that stand one after another in one list of bytes.
use Rattle.std.specs.Prelude.{◌≡◌, ◌≤◌, ℕ, zero, suc, List, [], ◌∷◌, slice_range}

-- the strings that begin at a place of the bytes, each up to its end
abbrev pub pieces_from : ℕ → List ℕ → List ℕ → List (List ℕ)
pieces_from start bytes [] = []
pieces_from start bytes (end ∷ ends) = slice_range bytes start end ∷ pieces_from end bytes ends

abbrev pub pieces : List ℕ → List ℕ → List (List ℕ)
pieces bytes ends = pieces_from 0 bytes ends

-- the ends of strings that begin at a place: each after the one before it, the last where the bytes end
abbrev pub AreEnds : ℕ → List ℕ → ℕ → Type 0
AreEnds start [] len = start ≡ len
AreEnds start (end ∷ ends) len = (start ≤ end) × AreEnds end ends len

-- where the string of this number begins
abbrev pub start_at : ℕ → List ℕ → ℕ → ℕ
start_at start ends zero = start
start_at start [] (suc number) = start
start_at start (end ∷ ends) (suc number) = start_at end ends number
