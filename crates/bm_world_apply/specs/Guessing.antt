-- Strings by which a secret may be guessed.
use Rattle.std.specs.Prelude.{ℕ, List, Bool, not, ◌&&◌}
use Rattle.spec_data.specs.Lists.{is_among}

-- whether it has the bytes of a secret and isn't posted, where these are the bytes of secrets and these strings are posted
abbrev pub is_untold : List (List ℕ) → List (List ℕ) → List ℕ → Bool
is_untold known posted string = is_among string known && not (is_among string posted)
