-- Items as numbers, as Bitcoin's script has them: the lowest byte first, the top bit of the last byte the sign.
use Rattle.std.specs.Prelude.{ℕ, zero, suc, ◌+◌, ◌*◌, ◌/◌, ◌%◌, List, [], ◌∷◌, length, Bool, true, false, if◌then◌else◌, nat_lt, nat_le}
use Rattle.std.specs.Prelude.{◌==◌, Option, Some, None, ℤ, pos, negsuc, ◌-ℤ◌}

-- the number without its sign
abbrev pub magnitude : List ℕ → ℕ
magnitude [] = 0
magnitude (b ∷ rest) = if length rest == 0 then b % 128 else b + 256 * magnitude rest

-- whether the sign is set
abbrev pub is_negative : List ℕ → Bool
is_negative [] = false
is_negative (b ∷ rest) = if length rest == 0 then nat_le 128 b else is_negative rest

-- a number by its sign and size
abbrev pub signed : Bool → ℕ → ℤ
signed negative n = if negative then pos 0 -ℤ pos n else pos n

-- the number of an operand, which has at most 4 bytes
unfoldable pub number_of_item : List ℕ → Option ℤ
number_of_item item = if nat_le (length item) 4 then Some (signed (is_negative item) (magnitude item)) else None

-- the bytes of a number: as many as it takes until the last has room for the sign
unfoldable pub signed_bytes : ℕ → ℕ → Bool → List ℕ
signed_bytes zero n negative = []
signed_bytes (suc k) n negative =
    if nat_lt n 128 then (n + (if negative then 128 else 0)) ∷ [] else (n % 256) ∷ signed_bytes k (n / 256) negative

-- the shortest item of a number below 2 ^ 71
unfoldable pub item_of_number : ℤ → List ℕ
item_of_number (pos n) = if n == 0 then [] else signed_bytes 9 n false
item_of_number (negsuc n) = signed_bytes 9 (n + 1) true
