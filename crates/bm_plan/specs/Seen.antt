-- JSON values and their texts.
use Rattle.std.specs.Prelude.{ℕ, List, Bool, false}
use Rattle.serde_json.specs.Data.{Data}
use Rattle.serde_json.specs.Written.{has_float, compact_text}

-- whether a value has a float, and its text without spaces
unfoldable pub seen : Data → Bool × List ℕ
seen d = (has_float d, compact_text d)

-- a text of a value without floats
abbrev pub plain : List ℕ → Bool × List ℕ
plain text = (false, text)
