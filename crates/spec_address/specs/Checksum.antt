-- The checksum of addresses, by BIP 173, "Checksum", with the constant of BIP 350 for the versions from 1 on.
use Rattle.std.specs.Prelude.{ℕ, ◌*◌, ◌/◌, ◌%◌, ◌^◌, List, [], ◌∷◌, ◌++◌, map, replicate, bit_xor, ◌==◌, if◌then◌else◌}

-- what is folded in for the bits 0, 1, 2, 3 and 4 of what is shifted out
abbrev pub generators : List ℕ
generators = 0x3b6a57b2 ∷ 0x26508e6d ∷ 0x1ea119fa ∷ 0x3d4233dd ∷ 0x2a1462b3 ∷ []

-- the generator, if the lowest bit is 1
abbrev pub chosen : ℕ → ℕ → ℕ
chosen bits generator = if bits % 2 == 1 then generator else 0

-- the state with the generators folded in whose bits are 1, the lowest bit first
abbrev pub folded : ℕ → List ℕ → ℕ → ℕ
folded bits [] state = state
folded bits (g ∷ gs) state = folded (bits / 2) gs (bit_xor state (chosen bits g))

-- the state of 30 bits behind one value more
unfoldable pub next_state : ℕ → ℕ → ℕ
next_state state value = folded (state / 2 ^ 25) generators (bit_xor (state % 2 ^ 25 * 32) value)

-- the state behind these values
abbrev pub state_from : ℕ → List ℕ → ℕ
state_from state [] = state
state_from state (v ∷ vs) = state_from (next_state state v) vs

-- the checksum of values below 32
abbrev pub checksum : List ℕ → ℕ
checksum values = state_from 1 values

-- a human-readable part as values: the high bits of each character, 0, and the low bits of each
abbrev pub extended : List ℕ → List ℕ
extended hrp = map (λ b. b / 32) hrp ++ 0 ∷ map (λ b. b % 32) hrp

-- what the checksum of a whole address is, by its version
abbrev pub mark : ℕ → ℕ
mark version = if version == 0 then 1 else 0x2bc830a3

-- a number of 30 bits as six values, the highest first
abbrev pub six_values : ℕ → List ℕ
six_values n = n / 2 ^ 25 % 32 ∷ n / 2 ^ 20 % 32 ∷ n / 2 ^ 15 % 32 ∷ n / 2 ^ 10 % 32 ∷ n / 2 ^ 5 % 32 ∷ n % 32 ∷ []

-- the last six values of an address, by its human-readable part, its version, and the version with the groups behind it
unfoldable pub check_values : List ℕ → ℕ → List ℕ → List ℕ
check_values hrp version values = six_values (bit_xor (checksum (extended hrp ++ values ++ replicate 6 0)) (mark version))
