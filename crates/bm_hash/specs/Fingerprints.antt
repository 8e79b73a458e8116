-- The fingerprint of a byte string: a number that nearly always tells it from others. Nothing is asked of it but that a string has one.
use Rattle.std.specs.Prelude.{ℕ, ◌+◌, ◌*◌, ◌/◌, ◌%◌, ◌^◌, List, length, drop}
use Rattle.std.specs.List.{fold}
use Rattle.std.specs.Int.{from_le_bytes, w64, rotate_left}
use Rattle.std.specs.Simd.{first_chunks}

-- a number mixed into a fingerprint, as XXH64 does it
unfoldable pub mixed : ℕ → ℕ → ℕ
mixed fingerprint number = (rotate_left w64 ((fingerprint + (number * 14029467366897019727) % 2 ^ 64) % 2 ^ 64) 31 * 11400714785074694791) % 2 ^ 64

-- a word of eight bytes mixed into a fingerprint
abbrev pub mixed_word : ℕ → List ℕ → ℕ
mixed_word fingerprint word = mixed fingerprint (from_le_bytes w64 word)

-- the words of eight bytes, and then the bytes behind them
unfoldable pub fingerprint_of : List ℕ → ℕ
fingerprint_of bytes =
    fold mixed (fold mixed_word (length bytes) (first_chunks 8 (length bytes / 8) bytes)) (drop (length bytes / 8 * 8) bytes)
