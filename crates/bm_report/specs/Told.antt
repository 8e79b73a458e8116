-- The line of a secret, by what a configuration tells of it.
use Rattle.std.specs.Prelude.{ℕ, Bool, List, [], Option, Some, None}
use Rattle.spec_text.specs.PlayText.{secret_line}

-- the line of a secret with this length, known or not, that is revealed or not; nothing where it isn't committed
abbrev pub told_line : ℕ → List ℕ → List ℕ → Option (Option ℕ × Bool) → List ℕ
told_line k a s None = []
told_line k a s (Some told) = secret_line k a s (told.1) (Some (told.0))
