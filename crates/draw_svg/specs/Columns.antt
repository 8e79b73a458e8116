-- The first column of some, and the others.
use Rattle.std.specs.Prelude.{ℕ, List, [], ◌∷◌}

abbrev pub first_or : ℕ → List ℕ → ℕ
first_or none [] = none
first_or none (w ∷ ws) = w

abbrev pub others : List ℕ → List ℕ
others [] = []
others (w ∷ ws) = ws
