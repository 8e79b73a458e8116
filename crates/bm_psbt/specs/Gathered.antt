-- Maps as they are read in one pass: their records are put in the order of their keys.
use Rattle.std.specs.Prelude.{ℕ, zero, suc, List, [], ◌∷◌, length, map, not, ◌==◌, if◌then◌else◌, Option, Some, None, is_some}
use Rattle.std.specs.List.{list_all}
use Rattle.std.specs.Map.Iter.{deref_pair}
use Rattle.std.specs.Borrow.{Bor}
use Rattle.spec_data.specs.Lists.{is_among, look_up}
use Rattle.spec_terms.specs.Precondition.{names_of}
use Rattle.spec_bitcoin.specs.Reading.{string_at}
use Rattle.spec_text.specs.Words.{◌>>=◌, given}
use Rattle.spec_tool.specs.declared.psbt.PsbtInput.{PsbtInput}
use Rattle.spec_tool.specs.Psbt.{Pairing, insert_signature}
use Rattle.spec_tool.specs.PsbtBytes.{taken, map_at}

-- the records of these borrowed keys and values
abbrev pub pairs : List (Bor (List ℕ) × Bor (List ℕ)) → List Pairing
pairs records = map deref_pair records

-- the record at the front, put in its place among others; none of them has its key
unfoldable pub one_put : List Pairing → List ℕ → Option (List Pairing × List ℕ)
one_put records bytes = do
  key ← taken (string_at bytes)
  value ← taken (string_at (key.1))
  given (not (is_among (key.0) (names_of records))) (insert_signature (key.0, value.0) records, value.1)

-- at most so many records more up to the byte 00, and the bytes behind it
unfoldable pub gathered : ℕ → List Pairing → List ℕ → Option (List Pairing × List ℕ)
gathered zero records bytes = None
gathered (suc n) records [] = None
gathered (suc n) records (b ∷ bytes) =
    if b == 0 then Some (records, bytes) else (one_put records (b ∷ bytes) >>= λ p. gathered n (p.0) (p.1))

-- a map with its records in order, and the bytes behind it
abbrev pub ordered_at : List ℕ → Option (List Pairing × List ℕ)
ordered_at bytes = gathered (length bytes) [] bytes
