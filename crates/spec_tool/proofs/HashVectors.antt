-- A hash of 32 bytes for test vectors, without collisions among them.
use Rattle.std.specs.Prelude.{ℕ, ◌+◌, ◌*◌, ◌%◌, ◌^◌, List, ◌++◌, replicate, fold}
use Rattle.std.specs.Int.{w64, to_le_bytes}

abbrev pub stirred : ℕ → ℕ → ℕ
stirred state b = (state * 6364136223846793005 + (b + 1442695040888963407)) % 2 ^ 64

-- the bytes stirred into 8 bytes, and zeros
abbrev pub small_hash : List ℕ → List ℕ
small_hash message = to_le_bytes w64 (fold stirred 0 message) ++ replicate 24 0
