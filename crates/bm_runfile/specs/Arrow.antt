-- Words before an arrow.
use Rattle.std.specs.Prelude.{ℕ, List, ◌++◌, Option, Some, None}

-- words before those up to an arrow
abbrev pub after_words : List (List ℕ) → Option (List (List ℕ) × List (List ℕ)) → Option (List (List ℕ) × List (List ℕ))
after_words prefix None = None
after_words prefix (Some p) = Some (prefix ++ p.0, p.1)
