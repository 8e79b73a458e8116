-- Bytes by their hexadecimal digits.
use Rattle.std.specs.Prelude.{ℕ, List, [], Option, Some, None}
use Rattle.spec_data.specs.Digits.{read_hex}

-- the bytes, if there are any
abbrev pub or_nothing : Option (List ℕ) → List ℕ
or_nothing (Some bytes) = bytes
or_nothing None = []

-- the bytes that hexadecimal digits spell
abbrev pub bytes_of : List ℕ → List ℕ
bytes_of digits = or_nothing (read_hex digits)
