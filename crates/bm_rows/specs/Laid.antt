-- Lists that stand one after another in one list of cells.
use Rattle.std.specs.Prelude.{◌≡◌, ◌≤◌, ℕ, zero, suc, List, [], ◌∷◌, slice_range}

-- the lists that begin at a place of the cells, each up to its end
abbrev pub rows_from : {T : Type 0} → ℕ → List T → List ℕ → List (List T)
rows_from start cells [] = []
rows_from start cells (end ∷ ends) = slice_range cells start end ∷ rows_from end cells ends

-- the ends of lists that begin at a place: each at or after the one before it, the last where the cells end
abbrev pub AreEnds : ℕ → List ℕ → ℕ → Type 0
AreEnds start [] total = start ≡ total
AreEnds start (end ∷ ends) total = (start ≤ end) × AreEnds end ends total

-- where the list of this number begins
abbrev pub start_at : ℕ → List ℕ → ℕ → ℕ
start_at start ends zero = start
start_at start [] (suc number) = start
start_at start (end ∷ ends) (suc number) = start_at end ends number
