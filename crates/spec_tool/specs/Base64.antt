-- Base64 as text, by RFC 4648, section 4: with padding, with no bits left over and nothing between the symbols.
use Rattle.std.specs.Prelude.{ℕ, ◌+◌, ◌*◌, ◌/◌, ◌%◌, List, [], ◌∷◌, ◌++◌, ◌==◌, if◌then◌else◌, Option, Some}
use Rattle.std.specs.Prelude.{None, slice_index, position, codes}
use Rattle.spec_text.specs.Words.{◌>>=◌, given}

-- the 64 symbols, by their values
abbrev pub symbols : List ℕ
symbols = codes "ABCDEFGHIJKLMNOPQRSTUVWXYZabcdefghijklmnopqrstuvwxyz0123456789+/"

-- `=`, which fills the last group
abbrev pub padding : ℕ
padding = 61

-- ---- writing

abbrev pub symbol_of : ℕ → ℕ
symbol_of v = slice_index symbols v

-- the text of bytes: four symbols for three of them
unfoldable pub base64_text : List ℕ → List ℕ
base64_text [] = []
base64_text (a ∷ []) = symbol_of (a / 4) ∷ symbol_of (a % 4 * 16) ∷ padding ∷ padding ∷ []
base64_text (a ∷ b ∷ []) = symbol_of (a / 4) ∷ symbol_of (a % 4 * 16 + b / 16) ∷ symbol_of (b % 16 * 4) ∷ padding ∷ []
base64_text (a ∷ b ∷ c ∷ rest) =
    symbol_of (a / 4) ∷ symbol_of (a % 4 * 16 + b / 16) ∷ symbol_of (b % 16 * 4 + c / 64) ∷ symbol_of (c % 64) ∷ base64_text rest

-- ---- reading

-- the value of a symbol
abbrev pub value_of : ℕ → Option ℕ
value_of c = position (λ s. s == c) symbols

-- the first byte of a group, by its first two symbols
abbrev pub first_byte : ℕ → ℕ → ℕ
first_byte v w = v * 4 + w / 16

abbrev pub second_byte : ℕ → ℕ → ℕ
second_byte w x = w % 16 * 16 + x / 4

abbrev pub third_byte : ℕ → ℕ → ℕ
third_byte x y = x % 4 * 64 + y

-- the bytes of a group of four symbols
abbrev pub whole_group : ℕ → ℕ → ℕ → ℕ → Option (List ℕ)
whole_group a b c d = do
  v ← value_of a
  w ← value_of b
  x ← value_of c
  y ← value_of d
  Some (first_byte v w ∷ second_byte w x ∷ third_byte x y ∷ [])

-- the two bytes of a group of three symbols and one padding
abbrev pub two_group : ℕ → ℕ → ℕ → Option (List ℕ)
two_group a b c = do
  v ← value_of a
  w ← value_of b
  x ← value_of c
  given (x % 4 == 0) (first_byte v w ∷ second_byte w x ∷ [])

-- the byte of a group of two symbols and two paddings
abbrev pub one_group : ℕ → ℕ → Option (List ℕ)
one_group a b = do
  v ← value_of a
  w ← value_of b
  given (w % 16 == 0) (first_byte v w ∷ [])

-- the bytes of the last group
abbrev pub last_group : ℕ → ℕ → ℕ → ℕ → Option (List ℕ)
last_group a b c d =
    if d == padding then (if c == padding then one_group a b else two_group a b c)
    else whole_group a b c d

abbrev pub joined : Option (List ℕ) → Option (List ℕ) → Option (List ℕ)
joined prefix later = prefix >>= λ bytes. later >>= λ more. Some (bytes ++ more)

-- the bytes that a text is of
unfoldable pub base64_bytes : List ℕ → Option (List ℕ)
base64_bytes [] = Some []
base64_bytes (a ∷ b ∷ c ∷ d ∷ []) = last_group a b c d
base64_bytes (a ∷ b ∷ c ∷ d ∷ e ∷ rest) = joined (whole_group a b c d) (base64_bytes (e ∷ rest))
base64_bytes _ = None
