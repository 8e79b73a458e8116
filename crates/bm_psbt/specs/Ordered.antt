-- What records in the order of their keys say of an input, as they are read in one pass.
use Rattle.std.specs.Prelude.{ℕ, zero, suc, List, [], ◌∷◌, length, ◌==◌, if◌then◌else◌, Option, Some, None, is_some, Result, Ok, Err}
use Rattle.std.specs.List.{list_all}
use Rattle.spec_data.specs.Lists.{look_up}
use Rattle.spec_bitcoin.specs.declared.tx.Tx.{Tx}
use Rattle.spec_bitcoin.specs.declared.tx.TxOut.{TxOut}
use Rattle.spec_text.specs.Words.{◌>>=◌, given}
use Rattle.spec_tool.specs.declared.psbt.PsbtInput.{PsbtInput}
use Rattle.spec_tool.specs.Psbt.{Psbt, Pairing, magic, type_of, key_behind_type, output_of, witness_of, input_fits, global_of}
use Rattle.spec_tool.specs.PsbtBytes.{behind}
use Rattle.bm_psbt.specs.Gathered.{ordered_at}

-- the bytes behind what was read
abbrev pub rest_of : {A : Type 0} → Result (A × List ℕ) ℕ → Option (List ℕ)
rest_of (Ok x) = Some (x.1)
rest_of (Err left) = None

-- the signatures of these records, in the order of the records
abbrev pub signatures_in : List Pairing → List Pairing
signatures_in [] = []
signatures_in (r ∷ rs) = if type_of r == 2 then (key_behind_type (r.0), r.1) ∷ signatures_in rs else signatures_in rs

-- the output that the records say is spent
abbrev pub spent_in : List Pairing → Option TxOut
spent_in records = look_up (1 ∷ []) records >>= λ bytes. output_of bytes

-- the final witness that they say
abbrev pub witness_in : List Pairing → Option (List (List ℕ))
witness_in records = look_up (8 ∷ []) records >>= λ bytes. witness_of bytes

abbrev pub said_in : List Pairing → PsbtInput
said_in records = record {
  spent = spent_in records;
  partial = signatures_in records;
  all = is_some (look_up (3 ∷ []) records);
  script = look_up (5 ∷ []) records;
  witness = witness_in records;
}

-- what the map of an input says, its records in order
abbrev pub input_in : List Pairing → Option PsbtInput
input_in records = given (list_all input_fits records) (said_in records)

-- what the map of an input at the front says, and the bytes behind it
unfoldable pub input_at : List ℕ → Option (PsbtInput × List ℕ)
input_at bytes = do
  records ← ordered_at bytes
  input ← input_in (records.0)
  Some (input, records.1)

-- what so many maps of inputs say, one behind another
unfoldable pub inputs_at : ℕ → List ℕ → Option (List PsbtInput × List ℕ)
inputs_at zero bytes = Some ([], bytes)
inputs_at (suc n) bytes = do
  first ← input_at bytes
  others ← inputs_at n (first.1)
  Some (first.0 ∷ others.0, others.1)

-- the bytes behind so many maps
unfoldable pub behind_maps : ℕ → List ℕ → Option (List ℕ)
behind_maps zero bytes = Some bytes
behind_maps (suc n) bytes = ordered_at bytes >>= λ records. behind_maps n (records.1)

-- the data that is spelled behind the magic, read in one pass
unfoldable pub behind_magic_in_order : List ℕ → Option Psbt
behind_magic_in_order bytes = do
  global ← ordered_at bytes
  tx ← global_of (global.0)
  inputs ← inputs_at (length tx.inputs) (global.1)
  rest ← behind_maps (length tx.outputs) (inputs.1)
  given (length rest == 0) (record { tx = tx; inputs = inputs.0 })

-- the data that the bytes spell, read in one pass
abbrev pub psbt_in_order : List ℕ → Option Psbt
psbt_in_order bytes = behind magic bytes >>= λ maps. behind_magic_in_order maps
