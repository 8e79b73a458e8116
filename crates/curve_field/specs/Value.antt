-- The numbers that words stand for, the lowest word first.
use Rattle.std.specs.Prelude.{ℕ, ◌+◌, ◌*◌, ◌^◌}
use Rattle.curve_field.specs.declared.words.Words.{Words}
use Rattle.curve_field.specs.declared.words.Row.{Row}
use Rattle.curve_field.specs.declared.words.Wide.{Wide}

-- the number of four words
unfoldable pub value : Words → ℕ
value x = x.w0 + 2 ^ 64 * x.w1 + 2 ^ 128 * x.w2 + 2 ^ 192 * x.w3

-- the number of five words
abbrev pub row_value : Row → ℕ
row_value x = x.low + 2 ^ 64 * value x.high

-- the number of eight words
abbrev pub wide_value : Wide → ℕ
wide_value x = value x.low + 2 ^ 256 * value x.high
