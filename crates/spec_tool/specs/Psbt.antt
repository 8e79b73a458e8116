-- Partially signed transactions by BIP 174, with one signature an input and few fields: their data and their bytes.
use Rattle.std.specs.Prelude.{◌≡◌, ℕ, List, [], ◌∷◌, ◌++◌, length, Bool, true, false, not, ◌&&◌}
use Rattle.std.specs.Prelude.{◌||◌, ◌==◌, nat_lt, if◌then◌else◌, Option, Some, None, is_some, Result, Ok, Err}
use Rattle.std.specs.List.{flat_map, list_all, AllByRecursion}
use Rattle.std.specs.Str.{bytes_eq}
use Rattle.spec_data.specs.Lists.{look_up, are_different}
use Rattle.spec_data.specs.Digits.{onto}
use Rattle.spec_terms.specs.Precondition.{names_of}
use Rattle.spec_bitcoin.specs.declared.tx.Tx.{Tx}
use Rattle.spec_bitcoin.specs.declared.tx.TxIn.{TxIn}
use Rattle.spec_bitcoin.specs.declared.tx.TxOut.{TxOut}
use Rattle.spec_bitcoin.specs.Spelling.{IsString, sized, is_filled}
use Rattle.spec_bitcoin.specs.Reading.{any, output_at, witness_at, transaction_of}
use Rattle.spec_text.specs.Words.{◌>>=◌, given}
use Rattle.spec_tool.specs.declared.psbt.PsbtInput.{PsbtInput}

-- ---- the data

-- a transaction without scripts and witnesses at its inputs, and what is known of each input
pub record Psbt : Type 0 where
  pub tx : Tx
  pub inputs : List PsbtInput

-- whether a byte string comes before another: byte by byte, a prefix before the whole
abbrev pub is_before : List ℕ → List ℕ → Bool
is_before [] [] = false
is_before [] (y ∷ ys) = true
is_before (x ∷ xs) [] = false
is_before (x ∷ xs) (y ∷ ys) = nat_lt x y || ((x == y) && is_before xs ys)

-- whether each of the keys comes before the next
abbrev pub are_ascending : List (List ℕ) → Bool
are_ascending [] = true
are_ascending (key ∷ []) = true
are_ascending (key ∷ (next ∷ keys)) = is_before key next && are_ascending (next ∷ keys)

abbrev pub is_bare_input : TxIn → Bool
is_bare_input input = (length input.script_sig == 0) && not (is_filled input.witness)

-- whether a transaction has an input, and none has a script or a witness
abbrev pub is_unsigned : Tx → Bool
is_unsigned tx = not (length tx.inputs == 0) && list_all is_bare_input tx.inputs

-- whether such data is a partially signed transaction
abbrev pub is_psbt : Psbt → Bool
is_psbt p =
    is_unsigned p.tx && (length p.inputs == length p.tx.inputs)
    && list_all (λ (input : PsbtInput). are_ascending (names_of input.partial)) p.inputs

-- ---- maps

-- a key and a value
abbrev pub Pairing : Type 0
Pairing = List ℕ × List ℕ

abbrev pub pairing_bytes : Pairing → List ℕ
pairing_bytes r = sized (r.0) ++ sized (r.1)

-- the records of a map, and 00 behind them
abbrev pub map_bytes : List Pairing → List ℕ
map_bytes records = flat_map pairing_bytes records ++ 0 ∷ []

-- `psbt` and ff
abbrev pub magic : List ℕ
magic = 0x70 ∷ 0x73 ∷ 0x62 ∷ 0x74 ∷ 0xff ∷ []

-- a record that a map can have: no key is empty, since that would end the map
pub record IsPairing (r : Pairing) : Type 0 where
  pub some : length (r.0) == 0 ≡ false
  pub key : IsString (r.0)
  pub value : IsString (r.1)

-- the keys of a map are all different, foreign ones included
pub record IsMap (records : List Pairing) : Type 0 where
  pub each : AllByRecursion IsPairing records
  pub apart : are_different (names_of records) ≡ true

-- ---- what records say

-- the type of a record is the first byte of its key
abbrev pub type_of : Pairing → ℕ
type_of ([], value) = 0
type_of (t ∷ rest, value) = t

-- whether the key is its type alone
abbrev pub is_alone : Pairing → Bool
is_alone r = length (r.0) == 1

-- what is all of the bytes
abbrev pub whole : {A : Type 0} → Result (A × List ℕ) ℕ → Option A
whole (Ok p) = given (length (p.1) == 0) (p.0)
whole (Err left) = None

-- the transaction that bytes without marker and witnesses spell
abbrev pub unsigned_of : List ℕ → Option Tx
unsigned_of bytes = elim (transaction_of bytes) [
  | Ok tx ↦ given (is_unsigned tx) tx
  | Err place ↦ None
]

-- the output that the bytes spell
abbrev pub output_of : List ℕ → Option TxOut
output_of bytes = whole (output_at bytes)

-- the witness that the bytes spell
abbrev pub witness_of : List ℕ → Option (List (List ℕ))
witness_of bytes = whole (witness_at any bytes)

-- the hash type ALL, in 4 bytes
abbrev pub all_type : List ℕ
all_type = 1 ∷ 0 ∷ 0 ∷ 0 ∷ []

-- ---- the global map

-- of the whole transaction type 00 is known, and its key is alone
abbrev pub global_fits : Pairing → Bool
global_fits r = not (type_of r == 0) || is_alone r

-- the transaction that the global map has in its record 00
abbrev pub global_of : List Pairing → Option Tx
global_of records = do
  known ← given (list_all global_fits records) records
  bytes ← look_up (0 ∷ []) known
  unsigned_of bytes

-- ---- the map of an input

-- Of an input the types 01 spent output, 02 partial signature, 03 hash type, 05 script and 08 final witness are known;
-- a known one has a key of its length, and a value that spells its part.
abbrev pub input_fits : Pairing → Bool
input_fits r =
    if type_of r == 1 then is_alone r && is_some (output_of (r.1))
    else if type_of r == 2 then length (r.0) == 34
    else if type_of r == 3 then is_alone r && bytes_eq (r.1) all_type
    else if type_of r == 5 then is_alone r
    else if type_of r == 8 then is_alone r && is_some (witness_of (r.1))
    else true

-- a signature among others, in its place by its key
abbrev pub insert_signature : Pairing → List Pairing → List Pairing
insert_signature r [] = r ∷ []
insert_signature r (s ∷ ss) = if is_before (r.0) (s.0) then r ∷ (s ∷ ss) else s ∷ insert_signature r ss

abbrev pub key_behind_type : List ℕ → List ℕ
key_behind_type [] = []
key_behind_type (t ∷ key) = key

-- the signatures of these records by their keys, in ascending order of these
abbrev pub signatures_of : List Pairing → List Pairing
signatures_of [] = []
signatures_of (r ∷ rs) = if type_of r == 2 then insert_signature (key_behind_type (r.0), r.1) (signatures_of rs) else signatures_of rs

abbrev pub input_said : List Pairing → PsbtInput
input_said records = record {
  spent = look_up (1 ∷ []) records >>= λ bytes. output_of bytes;
  partial = signatures_of records;
  all = is_some (look_up (3 ∷ []) records);
  script = look_up (5 ∷ []) records;
  witness = look_up (8 ∷ []) records >>= λ bytes. witness_of bytes;
}

-- what the map of an input says; records of other types are foreign, and say nothing
abbrev pub input_of : List Pairing → Option PsbtInput
input_of records = given (list_all input_fits records) (input_said records)

-- what the maps of all inputs say
abbrev pub inputs_of : List (List Pairing) → Option (List PsbtInput)
inputs_of [] = Some []
inputs_of (records ∷ maps) = onto (input_of records) (inputs_of maps)

-- ---- the spelling

-- The bytes spell this data: the magic, then the maps, one for the whole, one for each input, one for each output, and
-- nothing behind them. In maps of outputs all records are foreign.
pub record Spells (bytes : List ℕ) (p : Psbt) : Type 0 where
  pub global : List Pairing
  pub inputs : List (List Pairing)
  pub outputs : List (List Pairing)
  pub same : bytes ≡ magic ++ (map_bytes global ++ (flat_map map_bytes inputs ++ flat_map map_bytes outputs))
  pub maps : AllByRecursion IsMap (global ∷ (inputs ++ outputs))
  pub tx : global_of global ≡ Some p.tx
  pub each_input : length inputs ≡ length p.tx.inputs
  pub said : inputs_of inputs ≡ Some p.inputs
  pub each_output : length outputs ≡ length p.tx.outputs
