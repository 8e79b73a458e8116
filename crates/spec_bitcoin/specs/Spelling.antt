-- The bytes of a transaction, by BIP 144; counts and lengths are the CompactSize of Bitcoin's messages, in the shortest of its four forms.
use Rattle.std.specs.Prelude.{◌≡◌, ℕ, ◌<◌, ◌^◌, List, [], ◌∷◌, ◌++◌, length, Bool, true, false, ◌||◌, if◌then◌else◌, nat_lt}
use Rattle.std.specs.List.{flat_map, AllByRecursion}
use Rattle.std.specs.Int.{w16, w32, w64, to_le_bytes}
pub use Rattle.spec_data.specs.Hashes.{IsBytes}
use Rattle.spec_bitcoin.specs.declared.tx.OutPoint.{OutPoint}
use Rattle.spec_bitcoin.specs.declared.tx.TxIn.{TxIn}
use Rattle.spec_bitcoin.specs.declared.tx.TxOut.{TxOut}
use Rattle.spec_bitcoin.specs.declared.tx.Tx.{Tx}

-- ---- the parts

-- a number of 4 bytes, the lowest first
abbrev pub word : ℕ → List ℕ
word n = to_le_bytes w32 n

-- a number of 8 bytes, the lowest first
abbrev pub long_word : ℕ → List ℕ
long_word n = to_le_bytes w64 n

-- a count, in the shortest of four forms
unfoldable pub compact : ℕ → List ℕ
compact n =
    if nat_lt n 253 then n ∷ [] else (
    if nat_lt n (2 ^ 16) then 253 ∷ to_le_bytes w16 n else (
    if nat_lt n (2 ^ 32) then 254 ∷ to_le_bytes w32 n else
    255 ∷ to_le_bytes w64 n))

-- bytes with their length before them
abbrev pub sized : List ℕ → List ℕ
sized bytes = compact (length bytes) ++ bytes

-- the place of an output
abbrev pub place_bytes : OutPoint → List ℕ
place_bytes place = place.txid ++ word place.vout

-- an input, without its witness
abbrev pub input_bytes : TxIn → List ℕ
input_bytes input = place_bytes input.prev ++ sized input.script_sig ++ word input.sequence

-- an output
abbrev pub output_bytes : TxOut → List ℕ
output_bytes output = long_word output.value ++ sized output.script

-- a witness: how many items it has, and each of them
abbrev pub witness_bytes : List (List ℕ) → List ℕ
witness_bytes items = compact (length items) ++ flat_map sized items

-- how many inputs there are, and each of them
abbrev pub inputs_bytes : List TxIn → List ℕ
inputs_bytes inputs = compact (length inputs) ++ flat_map input_bytes inputs

-- how many outputs there are, and each of them
abbrev pub outputs_bytes : List TxOut → List ℕ
outputs_bytes outputs = compact (length outputs) ++ flat_map output_bytes outputs

-- the witness of each input
abbrev pub witnesses_bytes : List TxIn → List ℕ
witnesses_bytes inputs = flat_map (λ i. witness_bytes i.witness) inputs

-- ---- the whole

-- whether there is an item
abbrev pub is_filled : List (List ℕ) → Bool
is_filled [] = false
is_filled (item ∷ items) = true

-- whether some witness has an item
abbrev pub is_marked : List TxIn → Bool
is_marked [] = false
is_marked (input ∷ inputs) = is_filled input.witness || is_marked inputs

-- the bytes without marker and witnesses
unfoldable pub stripped : Tx → List ℕ
stripped tx = word tx.version ++ inputs_bytes tx.inputs ++ outputs_bytes tx.outputs ++ word tx.lock

-- the bytes with the marker 00, the flag 01 and the witnesses
unfoldable pub marked : Tx → List ℕ
marked tx = word tx.version ++ 0 ∷ 1 ∷ (inputs_bytes tx.inputs ++ outputs_bytes tx.outputs ++ witnesses_bytes tx.inputs ++ word tx.lock)

-- the bytes: with marker exactly where some witness has an item
abbrev pub spelling : Tx → List ℕ
spelling tx = if is_marked tx.inputs then marked tx else stripped tx

-- ---- what has a spelling

-- a byte string whose length a count can say
pub record IsString (text : List ℕ) : Type 0 where
  pub bytes : IsBytes text
  pub size : length text < 2 ^ 64

pub record IsPlace (place : OutPoint) : Type 0 where
  pub txid : IsBytes place.txid
  pub size : length place.txid ≡ 32
  pub vout : place.vout < 2 ^ 32

pub record IsInput (input : TxIn) : Type 0 where
  pub prev : IsPlace input.prev
  pub script_sig : IsString input.script_sig
  pub sequence : input.sequence < 2 ^ 32
  pub items : length input.witness < 2 ^ 64
  pub witness : AllByRecursion IsString input.witness

pub record IsOutput (output : TxOut) : Type 0 where
  pub value : output.value < 2 ^ 64
  pub script : IsString output.script

-- the numbers are within their widths, and there is an input
pub record IsTransaction (tx : Tx) : Type 0 where
  pub version : tx.version < 2 ^ 32
  pub some : 0 < length tx.inputs
  pub few_inputs : length tx.inputs < 2 ^ 64
  pub inputs : AllByRecursion IsInput tx.inputs
  pub few_outputs : length tx.outputs < 2 ^ 64
  pub outputs : AllByRecursion IsOutput tx.outputs
  pub lock : tx.lock < 2 ^ 32

-- the bytes spell this transaction
pub record Spells (bytes : List ℕ) (tx : Tx) : Type 0 where
  pub same : bytes ≡ spelling tx
  pub fits : IsTransaction tx

-- the bytes are the prefix of some transaction's spelling
pub record Begins (bytes : List ℕ) : Type 0 where
  pub more : List ℕ
  pub tx : Tx
  pub spelled : Spells (bytes ++ more) tx
