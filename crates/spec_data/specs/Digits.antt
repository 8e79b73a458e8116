-- Numbers and bytes as words: plain decimals, and hexadecimal digits.
use Rattle.std.specs.Prelude.{ℕ, ◌+◌, ◌-◌, ◌*◌, ◌/◌, ◌%◌, ◌^◌, List, [], ◌∷◌, length, flat_map, Bool, false, ◌&&◌, if◌then◌else◌, ◌==◌}
use Rattle.std.specs.Prelude.{nat_le, nat_lt, Option, Some, None}
use Rattle.std.specs.List.{list_all}

-- ---- decimals

abbrev pub is_digit : ℕ → Bool
is_digit b = nat_le 48 b && nat_le b 57

-- the number that digits go on to after this one
abbrev pub value_from : ℕ → List ℕ → ℕ
value_from number [] = number
value_from number (b ∷ bytes) = value_from (number * 10 + (b - 48)) bytes

-- the number that the digits are
abbrev pub decimal_value : List ℕ → ℕ
decimal_value digits = value_from 0 digits

-- `0`, or a digit from 1 to 9 and further digits
abbrev pub is_plain : List ℕ → Bool
is_plain [] = false
is_plain (b ∷ bytes) = if b == 48 then length bytes == 0 else is_digit b && list_all is_digit bytes

-- the number, if it is below the bound
abbrev pub below : ℕ → ℕ → Option ℕ
below bound number = if nat_lt number bound then Some number else None

-- the number below the bound that a word spells
abbrev pub number_below : ℕ → List ℕ → Option ℕ
number_below bound word = if is_plain word then below bound (decimal_value word) else None

-- the number below 2^64 that a word spells
abbrev pub read_decimal : List ℕ → Option ℕ
read_decimal word = number_below (2 ^ 64) word

-- ---- hexadecimal digits

-- the digit of a value below 16, in lower case
abbrev pub hex_digit : ℕ → ℕ
hex_digit v = if nat_lt v 10 then 48 + v else 87 + v

abbrev pub hex_byte : ℕ → List ℕ
hex_byte b = hex_digit (b / 16) ∷ hex_digit (b % 16) ∷ []

-- bytes in lower-case hexadecimal digits, two for each
abbrev pub hex_text : List ℕ → List ℕ
hex_text bytes = flat_map hex_byte bytes

-- the value of a digit of either case
abbrev pub hex_digit_value : ℕ → Option ℕ
hex_digit_value c =
    if is_digit c then Some (c - 48)
    else if nat_le 97 c && nat_le c 102 then Some (c - 87)
    else if nat_le 65 c && nat_le c 70 then Some (c - 55)
    else None

-- the byte of two digits
abbrev pub hex_pair : Option ℕ → Option ℕ → Option ℕ
hex_pair (Some high) (Some low) = Some (high * 16 + low)
hex_pair (Some high) None = None
hex_pair None low = None

abbrev pub onto : {A : Type 0} → Option A → Option (List A) → Option (List A)
onto (Some x) (Some xs) = Some (x ∷ xs)
onto (Some x) None = None
onto None xs = None

-- the bytes of an even number of digits
abbrev pub hex_bytes : List ℕ → Option (List ℕ)
hex_bytes [] = Some []
hex_bytes (c ∷ []) = None
hex_bytes (c ∷ d ∷ cs) = onto (hex_pair (hex_digit_value c) (hex_digit_value d)) (hex_bytes cs)

-- the bytes that a word spells: at least one
abbrev pub read_hex : List ℕ → Option (List ℕ)
read_hex [] = None
read_hex (c ∷ cs) = hex_bytes (c ∷ cs)
