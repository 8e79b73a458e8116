-- Output scripts that wallets have: witness programs (BIP 141, BIP 341), and the two forms before them, which can be paid alone.
use Rattle.std.specs.Prelude.{ℕ, List, [], ◌∷◌, ◌++◌, length, take, drop, Bool, false, ◌&&◌, ◌||◌, ◌==◌}
use Rattle.std.specs.Str.{bytes_eq}
use Rattle.spec_compiler.specs.Keyed.OwnScripts.{pays_to_key_hash, key_hash_code}
use Rattle.spec_deal.specs.Verifier.{Verifier}

-- ---- witness programs

-- whether a script is this operation, which pushes a version, and a push of so many bytes
abbrev pub is_program : ℕ → ℕ → List ℕ → Bool
is_program operation size [] = false
is_program operation size (a ∷ []) = false
is_program operation size (a ∷ b ∷ program) = a == operation && (b == size && length program == size)

-- for whoever shows the script of this hash (P2WSH)
abbrev pub pays_to_script_hash : List ℕ → Bool
pays_to_script_hash script = is_program 0 32 script

-- for a key of 32 bytes (P2TR)
abbrev pub has_taproot_form : List ℕ → Bool
has_taproot_form script = is_program 0x51 32 script

-- with 02 before it, it is a key that is a point
abbrev pub pays_to_taproot : Verifier → List ℕ → Bool
pays_to_taproot v script = has_taproot_form script && v.is_point (2 ∷ drop 2 script)

-- a wallet's deposit has an output of one of these
abbrev pub pays_to_wallet : Verifier → List ℕ → Bool
pays_to_wallet v script = pays_to_key_hash script || (pays_to_script_hash script || pays_to_taproot v script)

-- ---- the forms before them

-- for the key of this hash (P2PKH)
abbrev pub pays_to_older_key_hash : List ℕ → Bool
pays_to_older_key_hash script = length script == 25 && bytes_eq script (key_hash_code (take 20 (drop 3 script)))

-- HASH160, a hash, EQUAL
abbrev pub script_hash_code : List ℕ → List ℕ
script_hash_code program = 0xa9 ∷ 20 ∷ (program ++ 0x87 ∷ [])

-- for whoever shows the script of this hash (BIP 16, P2SH)
abbrev pub pays_to_older_script_hash : List ℕ → Bool
pays_to_older_script_hash script = length script == 23 && bytes_eq script (script_hash_code (take 20 (drop 2 script)))

-- ---- where a participant may be paid

-- an output of another script would be lost, or anybody's
abbrev pub is_payable : Verifier → List ℕ → Bool
is_payable v script =
    pays_to_key_hash script
    || (pays_to_script_hash script
    || (pays_to_taproot v script || (pays_to_older_key_hash script || pays_to_older_script_hash script)))
