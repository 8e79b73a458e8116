-- Partially signed transactions by BIP 174, with one signature an input and few fields: how they are read, written and combined.
use Rattle.std.specs.Prelude.{ℕ, zero, suc, ◌+◌, List, [], ◌∷◌, ◌++◌, length, map, replicate, Bool, true, false, not, ◌||◌, ◌==◌}
use Rattle.std.specs.Prelude.{if◌then◌else◌, Option, Some, None, Result, Ok, Err}
use Rattle.std.specs.List.{flat_map, list_any}
use Rattle.std.specs.Option.{option_map_or, option_or}
use Rattle.std.specs.Cmp.Lexicographic.{pointwise}
use Rattle.std.specs.Str.{bytes_eq}
use Rattle.spec_data.specs.Lists.{look_up, are_different}
use Rattle.spec_terms.specs.Precondition.{names_of}
use Rattle.spec_bitcoin.specs.Spelling.{stripped, output_bytes, witness_bytes}
use Rattle.spec_bitcoin.specs.Reading.{string_at}
use Rattle.spec_run.specs.Ledger.{same_bare, same_output}
use Rattle.spec_text.specs.Words.{◌>>=◌, given}
use Rattle.spec_tool.specs.declared.psbt.PsbtInput.{PsbtInput}
use Rattle.spec_tool.specs.Psbt.{Psbt, Pairing, map_bytes, magic, all_type, global_of, inputs_of, insert_signature}

-- ---- reading

abbrev pub taken : {A : Type 0} → Result (A × List ℕ) ℕ → Option (A × List ℕ)
taken (Ok p) = Some p
taken (Err left) = None

-- the bytes behind this prefix
abbrev pub behind : List ℕ → List ℕ → Option (List ℕ)
behind [] bytes = Some bytes
behind (x ∷ xs) [] = None
behind (x ∷ xs) (b ∷ bytes) = if x == b then behind xs bytes else None

-- at most so many records up to the byte 00, and the bytes behind it
unfoldable pub records_at : ℕ → List ℕ → Option (List Pairing × List ℕ)
records_at zero bytes = None
records_at (suc n) [] = None
records_at (suc n) (b ∷ bytes) =
    if b == 0 then Some ([], bytes) else do
      key ← taken (string_at (b ∷ bytes))
      value ← taken (string_at (key.1))
      rest ← records_at n (value.1)
      Some ((key.0, value.0) ∷ rest.0, rest.1)

-- a map, whose keys are all different, and the bytes behind it; each record has a byte at least
abbrev pub map_at : List ℕ → Option (List Pairing × List ℕ)
map_at bytes = do
  p ← records_at (length bytes) bytes
  given (are_different (names_of (p.0))) p

-- so many maps
unfoldable pub maps_at : ℕ → List ℕ → Option (List (List Pairing) × List ℕ)
maps_at zero bytes = Some ([], bytes)
maps_at (suc n) bytes = do
  first ← map_at bytes
  others ← maps_at n (first.1)
  Some (first.0 ∷ others.0, others.1)

-- the data that the bytes spell
unfoldable pub psbt_of : List ℕ → Option Psbt
psbt_of bytes = do
  maps ← behind magic bytes
  global ← map_at maps
  tx ← global_of (global.0)
  inputs ← maps_at (length tx.inputs) (global.1)
  said ← inputs_of (inputs.0)
  outputs ← maps_at (length tx.outputs) (inputs.1)
  given (length (outputs.1) == 0) (record { tx = tx; inputs = said })

-- ---- writing

-- a record whose key is its type alone, where there is such a part
abbrev pub part : {A : Type 0} → ℕ → (A → List ℕ) → Option A → List Pairing
part t spell None = []
part t spell (Some a) = (t ∷ [], spell a) ∷ []

abbrev pub as_it_is : List ℕ → List ℕ
as_it_is bytes = bytes

abbrev pub all_part : Bool → List Pairing
all_part true = (3 ∷ [], all_type) ∷ []
all_part false = []

-- the records of an input, by type and then by key
abbrev pub input_records : PsbtInput → List Pairing
input_records input =
    part 1 output_bytes input.spent
    ++ (map {B = Pairing} (λ p. (2 ∷ p.0, p.1)) input.partial
    ++ (all_part input.all
    ++ (part 5 as_it_is input.script
    ++ part 8 witness_bytes input.witness)))

-- the bytes that are written; maps of outputs are empty
unfoldable pub psbt_bytes : Psbt → List ℕ
psbt_bytes p =
    magic
    ++ (map_bytes ((0 ∷ [], stripped p.tx) ∷ [])
    ++ (flat_map (λ input. map_bytes (input_records input)) p.inputs
    ++ replicate (length p.tx.outputs) 0))

-- ---- combining

-- why two of them can't be combined
pub data Discord : Type 0 where
  -- they are of different transactions
  other_tx : Discord
  -- of this input both have a record of one key with different values
  conflict : (input : ℕ) → Discord

-- whether both are there and aren't the same
abbrev pub are_at_odds : {A : Type 0} → (A → A → Bool) → Option A → Option A → Bool
are_at_odds same (Some a) (Some b) = not (same a b)
are_at_odds same None other = false
are_at_odds same (Some a) None = false

-- whether a key has different signatures in both
abbrev pub signatures_differ : List Pairing → List Pairing → Bool
signatures_differ here there = list_any (λ p. are_at_odds bytes_eq (Some (p.1)) (look_up (p.0) there)) here

-- the record of the hash type has one value alone
abbrev pub inputs_differ : PsbtInput → PsbtInput → Bool
inputs_differ a b =
    are_at_odds same_output a.spent b.spent
    || (signatures_differ a.partial b.partial
    || (are_at_odds bytes_eq a.script b.script
    || are_at_odds (pointwise bytes_eq) a.witness b.witness))

-- the first input from number k on of which records differ
abbrev pub first_conflict : ℕ → List PsbtInput → List PsbtInput → Option ℕ
first_conflict k [] others = None
first_conflict k (a ∷ as') [] = None
first_conflict k (a ∷ as') (b ∷ bs) = if inputs_differ a b then Some k else first_conflict (k + 1) as' bs

-- the signatures of both; where both have a key, the first's
abbrev pub signatures_joined : List Pairing → List Pairing → List Pairing
signatures_joined here [] = here
signatures_joined here (p ∷ ps) =
    option_map_or (λ s. signatures_joined here ps) (look_up (p.0) here) (signatures_joined (insert_signature p here) ps)

abbrev pub input_joined : PsbtInput → PsbtInput → PsbtInput
input_joined a b = record {
  spent = option_or a.spent b.spent;
  partial = signatures_joined a.partial b.partial;
  all = a.all || b.all;
  script = option_or a.script b.script;
  witness = option_or a.witness b.witness;
}

abbrev pub inputs_joined : List PsbtInput → List PsbtInput → List PsbtInput
inputs_joined [] others = []
inputs_joined (a ∷ as') [] = a ∷ as'
inputs_joined (a ∷ as') (b ∷ bs) = input_joined a b ∷ inputs_joined as' bs

abbrev pub joined_unless : Option ℕ → Psbt → Psbt → Result Psbt Discord
joined_unless (Some k) a b = Err (conflict k)
joined_unless None a b = Ok (record { tx = a.tx; inputs = inputs_joined a.inputs b.inputs })

-- each input has the records of both, or why they can't be combined
abbrev pub combined : Psbt → Psbt → Result Psbt Discord
combined a b = if same_bare a.tx b.tx then joined_unless (first_conflict 0 a.inputs b.inputs) a b else Err other_tx
