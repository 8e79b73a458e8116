-- Three words, and no more.
use Rattle.std.specs.Prelude.{ℕ, List, [], ◌∷◌, Option, Some, None}

abbrev pub three_words : List (List ℕ) → Option (List ℕ × List ℕ × List ℕ)
three_words (a ∷ b ∷ c ∷ []) = Some (a, b, c)
three_words _ = None
