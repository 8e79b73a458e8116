-- What is claimed of addresses: each that is shown is read back, each that is read is shown again, and a word is the address of one script at most.
use Rattle.std.specs.Prelude.{◌≡◌, ◌≤◌, ℕ, List, length, true, Some, IsSome, ◌↔◌}
use Rattle.std.specs.Str.{str_to_ascii_lowercase}
use Rattle.spec_address.specs.Address.{is_hrp, is_witness_output, address, reads, read_address}

-- each witness output script has an address
abbrev pub EachHasAddress : Type 0
EachHasAddress = (hrp script : List ℕ) → is_hrp hrp ≡ true → is_witness_output script ≡ true → IsSome (address hrp script)

-- an address is read back as the script that it is of
abbrev pub AddressesAreReadBack : Type 0
AddressesAreReadBack = (hrp script text : List ℕ) → address hrp script ≡ Some text → read_address hrp text ≡ Some script

-- a script is read exactly where the word is its address, in small letters or in capitals
abbrev pub ReadExactly : Type 0
ReadExactly = (hrp word script : List ℕ) → (read_address hrp word ≡ Some script) ↔ (reads hrp word script ≡ true)

-- a word is the address of one script at most
abbrev pub OneScript : Type 0
OneScript = (hrp word one other : List ℕ) → reads hrp word one ≡ true → reads hrp word other ≡ true → one ≡ other

-- the address of a script that was read is the word in small letters
abbrev pub ReadIsShown : Type 0
ReadIsShown = (hrp word script : List ℕ) → is_hrp hrp ≡ true → reads hrp word script ≡ true → address hrp script ≡ Some (str_to_ascii_lowercase word)

-- a word that is read has at most 90 characters
abbrev pub ReadIsShort : Type 0
ReadIsShort = (hrp word script : List ℕ) → reads hrp word script ≡ true → length word ≤ 90

-- a word is an address of one network at most
abbrev pub OneNetwork : Type 0
OneNetwork = (one other word script script' : List ℕ) → is_hrp one ≡ true → is_hrp other ≡ true
    → reads one word script ≡ true → reads other word script' ≡ true → one ≡ other
