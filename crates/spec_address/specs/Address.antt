-- Addresses of witness output scripts, by BIP 173 for version 0 and BIP 350 for the versions 1 to 16; the scripts are those of BIP 141.
use Rattle.std.specs.Prelude.{ℕ, ◌+◌, ◌-◌, List, ◌∷◌, ◌++◌, length, take, drop, map, position, slice_index, codes, Bool, false, not, ◌&&◌, ◌||◌, ◌==◌, if◌then◌else◌}
use Rattle.std.specs.Prelude.{nat_le, nat_lt, Option, Some, None, unwrap_or}
use Rattle.std.specs.Char.{is_ascii_uppercase}
use Rattle.std.specs.List.{list_all}
use Rattle.std.specs.Str.{bytes_eq, str_to_ascii_lowercase, str_to_ascii_uppercase}
use Rattle.spec_address.specs.Checksum.{check_values}
use Rattle.spec_address.specs.Groups.{groups_of, bytes_of}

-- ---- human-readable parts

abbrev pub is_hrp_character : ℕ → Bool
is_hrp_character b = nat_le 33 b && (nat_le b 126 && not (is_ascii_uppercase b))

-- 1 to 18 characters from `!` to `~`, none of them a capital letter: with so many each script has an address
abbrev pub is_hrp : List ℕ → Bool
is_hrp word = nat_le 1 (length word) && (nat_le (length word) 18 && list_all is_hrp_character word)

-- ---- witness output scripts

-- the operation that pushes a version from 0 to 16
abbrev pub operation_of : ℕ → ℕ
operation_of version = if version == 0 then 0 else version + 0x50

abbrev pub version_of : ℕ → ℕ
version_of operation = operation - 0x50

-- 00, or from 51 to 60 in hexadecimal digits
abbrev pub pushes_version : ℕ → Bool
pushes_version operation = operation == 0 || (nat_le 0x51 operation && nat_le operation 0x60)

-- 2 to 40 bytes, and for version 0 either 20 or 32
abbrev pub is_program_size : ℕ → ℕ → Bool
is_program_size version size = if version == 0 then size == 20 || size == 32 else nat_le 2 size && nat_le size 40

abbrev pub are_bytes : List ℕ → Bool
are_bytes numbers = list_all (λ b. nat_lt b 256) numbers

-- a version, and behind it a program of a size that the version may have
abbrev pub is_witness_output : List ℕ → Bool
is_witness_output (operation ∷ size ∷ program) =
    pushes_version operation && (size == length program && (is_program_size (version_of operation) size && are_bytes program))
is_witness_output _ = false

-- ---- addresses

-- the letters of the values below 32
abbrev pub letters : List ℕ
letters = codes "qpzry9x8gf2tvdw0s3jn54khce6mua7l"

abbrev pub letter_of : ℕ → ℕ
letter_of value = slice_index letters value

-- the digit 1 between the human-readable part and the letters
abbrev pub separator : ℕ
separator = 49

-- the text of a version and the groups of a program
abbrev pub text_of : List ℕ → ℕ → List ℕ → List ℕ
text_of hrp version groups = hrp ++ separator ∷ map letter_of (version ∷ groups ++ check_values hrp version (version ∷ groups))

-- a text that is as short as an address is
abbrev pub short : List ℕ → Option (List ℕ)
short text = if nat_le (length text) 90 then Some text else None

-- the address of a witness output script, in small letters where the human-readable part is
unfoldable pub address : List ℕ → List ℕ → Option (List ℕ)
address hrp script =
    if is_witness_output script then short (text_of hrp (version_of (slice_index script 0)) (groups_of (drop 2 script))) else None

-- ---- reading

-- the word is the text, or the text in capitals
abbrev pub spells : List ℕ → Option (List ℕ) → Bool
spells word (Some text) = bytes_eq word text || bytes_eq word (str_to_ascii_uppercase text)
spells word None = false

-- whether a word is read as the address of a script
abbrev pub reads : List ℕ → List ℕ → List ℕ → Bool
reads hrp word script = spells word (address hrp script)

-- the value of a small letter, and 0 of any other character
abbrev pub value_of : ℕ → ℕ
value_of letter = unwrap_or (position (λ l. l == letter) letters) 0

-- the values of what stands behind the human-readable part and the separator
abbrev pub values_of : List ℕ → List ℕ → List ℕ
values_of hrp word = map value_of (str_to_ascii_lowercase (drop (length hrp + 1) word))

-- the script of these values: the version, the groups of the program, and six of the checksum
abbrev pub script_of : List ℕ → List ℕ
script_of values =
    let program = bytes_of (take (length values - 7) (drop 1 values)) in
    operation_of (slice_index values 0) ∷ length program ∷ program

-- the script that a word is the address of, which is the one that it spells or none
unfoldable pub read_address : List ℕ → List ℕ → Option (List ℕ)
read_address hrp word =
    let script = script_of (values_of hrp word) in
    if reads hrp word script then Some script else None
