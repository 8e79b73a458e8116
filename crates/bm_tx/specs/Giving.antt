-- What a reader of code answers, by the reader of the definitions that it follows.
use Rattle.std.specs.Prelude.{◌≡◌, ℕ, List, [], ◌∷◌, length, Bool, false, ◌||◌, Result, Ok, Err}
use Rattle.bm_tx.specs.declared.fault.ReadError.{ReadError}
use Rattle.bm_tx.specs.declared.fault.ReadError.TheVariants.{Memory, Bad}
use Rattle.spec_bitcoin.specs.declared.tx.TxIn.{TxIn}
use Rattle.spec_bitcoin.specs.Spelling.{is_filled}
use Rattle.spec_bitcoin.specs.Reading.{◌>>=◌, Body, byte_where, is_one, plain_at, witness_at, may_be}

-- what was returned, seen by a view, is what the definition reads, and so is the number of bytes that are left at a fault
abbrev pub Reads : {X Y : Type 0} → (X → Y) → Result X ℕ → Result Y ℕ → Type 0
Reads view (Ok x) read = read ≡ Ok (view x)
Reads view (Err left) read = read ≡ Err left

-- an error is that of the definition, unless memory ran out
abbrev pub Fails : {Y : Type 0} → ReadError → Result Y ℕ → Type 0
Fails Memory read = Unit {0}
Fails (Bad left) read = read ≡ Err left

-- what was returned, seen by a view, is what the definition reads, unless memory ran out
abbrev pub Gives : {X Y : Type 0} → (X → Y) → Result X ReadError → Result Y ℕ → Type 0
Gives view (Ok x) read = read ≡ Ok (view x)
Gives view (Err e) read = Fails e read

-- the inputs, each with its witness, of which one has an item, if none came before
unfoldable pub filled_at : List TxIn → Bool → List ℕ → Result (List TxIn × List ℕ) ℕ
filled_at [] seen bytes = Ok ([], bytes)
filled_at (i ∷ is) seen bytes = do
  w ← witness_at (may_be (length is) seen) bytes
  others ← filled_at is (seen || is_filled w.0) w.1
  Ok (record i { witness = w.0 } ∷ others.0, others.1)

-- what is read after the marker
abbrev pub after_marker : List ℕ → Result (Body × List ℕ) ℕ
after_marker bytes = do
  flag ← byte_where is_one bytes
  body ← plain_at flag.1
  inputs ← filled_at body.0.0 false body.1
  Ok ((inputs.0, body.0.1), inputs.1)
