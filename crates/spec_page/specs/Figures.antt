-- Sums as they are shown: decimals with a comma before each three digits from the right.
use Rattle.std.specs.Prelude.{ℕ, ◌%◌, zero, suc, List, [], ◌∷◌, ◌++◌, length, if◌then◌else◌, ◌==◌, codes}
use Rattle.std.specs.Fmt.{decimal}

-- what stands behind a digit that so many follow
abbrev pub behind_digit : ℕ → List ℕ
behind_digit zero = []
behind_digit (suc n) = if suc n % 3 == 0 then codes "," else []

abbrev pub separated : List ℕ → List ℕ
separated [] = []
separated (d ∷ ds) = d ∷ (behind_digit (length ds) ++ separated ds)

abbrev pub sum_text : ℕ → List ℕ
sum_text n = separated (decimal n)
