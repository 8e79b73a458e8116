-- Scripts of a wallet's own: of the outputs that it brings as deposits, and of those where it is paid.
use Rattle.std.specs.Prelude.{ℕ, List, [], ◌∷◌, ◌++◌, length, Bool, false, ◌&&◌, ◌==◌, if◌then◌else◌}
use Rattle.spec_bitcoin.specs.Verdict.{program_of}

-- output scripts that are given: of some deposits, by name, and of some participants, who are paid there
pub record OwnScripts : Type 0 where
  pub deposits : List (List ℕ × List ℕ)
  pub payees : List (List ℕ × List ℕ)

abbrev pub no_scripts : OwnScripts
no_scripts = record { deposits = []; payees = [] }

-- whether the output is for the key with this hash of 20 bytes: a witness program of version 0 (BIP 141, P2WPKH)
abbrev pub pays_to_key_hash : List ℕ → Bool
pays_to_key_hash [] = false
pays_to_key_hash (a ∷ []) = false
pays_to_key_hash (a ∷ b ∷ program) = a == 0 && (b == 20 && length program == 20)

-- what the signature that spends such an output is made with (BIP 143): DUP, HASH160, the hash, EQUALVERIFY, CHECKSIG
abbrev pub key_hash_code : List ℕ → List ℕ
key_hash_code program = 0x76 ∷ 0xa9 ∷ 20 ∷ (program ++ 0x88 ∷ 0xac ∷ [])

-- the script that signatures of whoever spends this output are made with: none but where it is for the hash of a key
abbrev pub code_of : List ℕ → List ℕ
code_of script = if pays_to_key_hash script then key_hash_code (program_of script) else []
