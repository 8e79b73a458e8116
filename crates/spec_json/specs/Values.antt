-- Values of JSON (RFC 8259) as they are printed, and the line of one.
use Rattle.std.specs.Prelude.{ℕ, List, [], ◌∷◌, ◌++◌, Option, Some, None}
use Rattle.std.specs.Str.Lossy.{utf8_lossy}
use Rattle.serde_json.specs.Data.{Data, null, number, unsigned, string, array}
use Rattle.serde_json.specs.View.{items_of}
use Rattle.serde_json.specs.Written.{compact_text}

-- a text; what isn't UTF-8, which no name of a file that was taken has, is replaced
abbrev pub text_value : List ℕ → Data
text_value text = string (utf8_lossy text)

abbrev pub number_value : ℕ → Data
number_value n = number (unsigned n)

-- `null` where there is none
abbrev pub optional_value : Option Data → Data
optional_value None = null
optional_value (Some value) = value

-- in order
abbrev pub list_value : List Data → Data
list_value values = array (items_of values)

-- a value without spaces on a line of its own
abbrev pub json_line : Data → List ℕ
json_line value = compact_text value ++ 10 ∷ []
