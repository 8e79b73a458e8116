-- Bytes as groups of five bits and back, as BIP 173 converts a witness program: the highest bit first, with bits 0 behind the last byte.
use Rattle.std.specs.Prelude.{ℕ, ◌+◌, ◌-◌, ◌*◌, ◌/◌, ◌%◌, ◌^◌, List, length, map, slice_index}
use Rattle.std.specs.List.{range_with_len}

-- ---- from bytes

-- the five bits from the bit 5i on
unfoldable pub group_at : List ℕ → ℕ → ℕ
group_at bytes i = (slice_index bytes (5 * i / 8) * 256 + slice_index bytes (5 * i / 8 + 1)) / 2 ^ (11 - 5 * i % 8) % 32

-- how many groups hold the bits of this many bytes
abbrev pub group_count : ℕ → ℕ
group_count bytes = (8 * bytes + 4) / 5

abbrev pub groups_of : List ℕ → List ℕ
groups_of bytes = map (group_at bytes) (range_with_len 0 (group_count (length bytes)))

-- ---- from groups

-- the eight bits from the bit 8i on
unfoldable pub byte_at : List ℕ → ℕ → ℕ
byte_at groups i =
    (slice_index groups (8 * i / 5) * 1024 + slice_index groups (8 * i / 5 + 1) * 32 + slice_index groups (8 * i / 5 + 2)) / 2 ^ (7 - 8 * i % 5) % 256

-- how many bytes this many groups fill
abbrev pub byte_count : ℕ → ℕ
byte_count groups = 5 * groups / 8

abbrev pub bytes_of : List ℕ → List ℕ
bytes_of groups = map (byte_at groups) (range_with_len 0 (byte_count (length groups)))
