-- Labels, keys, scripts of deposits, and signatures; what an output pays to is a witness program of version 0, by BIP 141.
use Rattle.std.specs.Prelude.{ℕ, ◌<◌, ◌^◌, List, [], ◌∷◌, ◌++◌, Bool, ◌&&◌, codes}
use Rattle.std.specs.List.{list_any, flat_map, AllByRecursion}
use Rattle.std.specs.Fmt.{decimal}
use Rattle.std.specs.Str.{bytes_eq}
use Rattle.spec_terms.specs.declared.path.PathStep.{PathStep}
use Rattle.spec_terms.specs.declared.path.PathStep.TheVariants.{Branch as BranchStep, Part}
use Rattle.spec_bitcoin.specs.declared.label.Label.{Label}
use Rattle.spec_bitcoin.specs.declared.label.Label.TheVariants.{Deposit, Branch}

-- ---- texts

-- a step of a path: .i to branch i, /k to part k
abbrev pub step_text : PathStep → List ℕ
step_text (BranchStep i) = codes "." ++ decimal i
step_text (Part k) = codes "/" ++ decimal k

-- a path: r, and its steps
abbrev pub path_text : List PathStep → List ℕ
path_text path = codes "r" ++ flat_map step_text path

-- a label
unfoldable pub label_text : Label → List ℕ
label_text (Deposit party) = codes "D:" ++ party
label_text (Branch contract path party) = codes "B:" ++ decimal contract ++ codes ":" ++ path_text path ++ codes ":" ++ party

-- the step's number is one of 4 bytes
abbrev pub IsStep : PathStep → Type 0
IsStep (BranchStep i) = i < 2 ^ 32
IsStep (Part k) = k < 2 ^ 32

-- the label's numbers are of 4 bytes
abbrev pub IsLabel : Label → Type 0
IsLabel (Deposit party) = Unit {0}
IsLabel (Branch contract path party) = (contract < 2 ^ 32) × AllByRecursion IsStep path

-- ---- keys and what they sign

-- the key of a label, 33 bytes
abbrev pub key_of : (List ℕ → List ℕ) → Label → List ℕ
key_of hash label = 2 ∷ hash (label_text label)

-- bytes of a key: a compressed public key, as the witness programs of BIP 143 ask
abbrev pub key_bytes : ℕ
key_bytes = 33

-- the byte of CHECKSIG in Bitcoin's script
abbrev pub checksig_byte : ℕ
checksig_byte = 0xac

-- the script of a deposit: a push of the key, and CHECKSIG
abbrev pub deposit_script : List ℕ → List ℕ
deposit_script key = key_bytes ∷ (key ++ checksig_byte ∷ [])

-- what an output pays to whose script has this hash
abbrev pub pay_to : List ℕ → List ℕ
pay_to program = 0 ∷ 32 ∷ program

-- what an output pays to that is the deposit of the party with this key
abbrev pub pay_to_key : (List ℕ → List ℕ) → List ℕ → List ℕ
pay_to_key hash key = pay_to (hash (deposit_script key))

-- the signature of a digest by a key: an ideal one, with the hash type ALL
abbrev pub signature_of : List ℕ → List ℕ → List ℕ
signature_of key digest = key ++ digest ++ 1 ∷ []

-- ---- the book of signatures

-- a key and a digest that it has signed
abbrev pub Pair : Type 0
Pair = List ℕ × List ℕ

-- whether the key has signed the digest
abbrev pub has_signed : List Pair → List ℕ → List ℕ → Bool
has_signed book key digest = list_any (λ p. bytes_eq p.0 key && bytes_eq p.1 digest) book

-- whether a signature is valid for a key, where this digest is to be signed
abbrev pub is_valid : List Pair → List ℕ → List ℕ → List ℕ → Bool
is_valid book digest signature key = bytes_eq signature (signature_of key digest) && has_signed book key digest
