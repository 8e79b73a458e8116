-- Reading of a transaction's bytes from left to right, by BIP 144: the transaction, or the place where the bytes go wrong.
use Rattle.std.specs.Prelude.{ℕ, zero, suc, ◌≤◌, ◌<◌, List, [], ◌∷◌, length, take, drop, nat_lt, nat_le, ◌||◌, ◌^◌, ◌-◌, ◌++◌, ◌==◌, not}
use Rattle.std.specs.Prelude.{Result, Ok, Err, Bool, true, false, if◌then◌else◌}
use Rattle.std.specs.Int.{Width, w16, w32, w64, byte_len, from_le_bytes}
use Rattle.spec_bitcoin.specs.declared.tx.TxIn.{TxIn}
use Rattle.spec_bitcoin.specs.declared.tx.TxOut.{TxOut}
use Rattle.spec_bitcoin.specs.declared.tx.Tx.{Tx}
use Rattle.spec_bitcoin.specs.Spelling.{is_filled, Spells, Begins}

-- ---- the words of reading: a reader answers what it read and the bytes after it, or how many bytes are left at the fault

infixl 10 ◌>>=◌
-- the first reader, and then the second on what it answered
abbrev pub ◌>>=◌ : {A B : Type 0} → Result A ℕ → (A → Result B ℕ) → Result B ℕ
(Ok x) >>= f = f x
(Err e) >>= f = Err e

-- a byte that passes the test
abbrev pub byte_where : (ℕ → Bool) → List ℕ → Result (ℕ × List ℕ) ℕ
byte_where p [] = Err 0
byte_where p (b ∷ bytes) = if p b then Ok (b, bytes) else Err (suc (length bytes))

-- one of two readers, by a test of the next byte; where there is none, the second
abbrev pub choose : {A : Type 0} → (ℕ → Bool) → (List ℕ → Result (A × List ℕ) ℕ) → (List ℕ → Result (A × List ℕ) ℕ) → List ℕ
    → Result (A × List ℕ) ℕ
choose p l m [] = m []
choose p l m (b ∷ bytes) = if p b then l (b ∷ bytes) else m (b ∷ bytes)

-- so many bytes
abbrev pub chunk : ℕ → List ℕ → Result (List ℕ × List ℕ) ℕ
chunk k bytes = if nat_lt (length bytes) k then Err 0 else Ok (take k bytes, drop k bytes)

-- so many values, one after another
unfoldable pub many : {A : Type 0} → (List ℕ → Result (A × List ℕ) ℕ) → ℕ → List ℕ → Result (List A × List ℕ) ℕ
many read zero bytes = Ok ([], bytes)
many read (suc n) bytes = do
  first ← read bytes
  others ← many read n first.1
  Ok (first.0 ∷ others.0, others.1)

-- ---- numbers and strings

-- any byte passes
abbrev pub any : ℕ → Bool
any b = true

abbrev pub is_zero : ℕ → Bool
is_zero b = b == 0

abbrev pub is_one : ℕ → Bool
is_one b = b == 1

abbrev pub not_zero : ℕ → Bool
not_zero b = not (b == 0)

-- a number of this width
abbrev pub number_at : Width → List ℕ → Result (ℕ × List ℕ) ℕ
number_at w bytes = do
  c ← chunk (byte_len w) bytes
  Ok (from_le_bytes w c.0, c.1)

-- a number of this width that is at least low; its last byte decides
unfoldable pub wide_at : Width → ℕ → List ℕ → Result (ℕ × List ℕ) ℕ
wide_at w low bytes = do
  c ← chunk (byte_len w - 1) bytes
  b ← byte_where (λ b. nat_le low (from_le_bytes w (c.0 ++ b ∷ []))) c.1
  Ok (from_le_bytes w (c.0 ++ b.0 ∷ []), b.1)

-- a count, by its first byte and those after it; no longer form than it needs
abbrev pub compact_from : ℕ → List ℕ → Result (ℕ × List ℕ) ℕ
compact_from b bytes =
    if nat_lt b 253 then Ok (b, bytes) else (
    if b == 253 then wide_at w16 253 bytes else (
    if b == 254 then wide_at w32 (2 ^ 16) bytes else
    wide_at w64 (2 ^ 32) bytes))

-- a count whose first byte passes the test
unfoldable pub compact_at : (ℕ → Bool) → List ℕ → Result (ℕ × List ℕ) ℕ
compact_at p bytes = do
  b ← byte_where p bytes
  compact_from b.0 b.1

-- bytes with their length before them
unfoldable pub string_at : List ℕ → Result (List ℕ × List ℕ) ℕ
string_at bytes = do
  n ← compact_at any bytes
  chunk n.0 n.1

-- ---- the parts of a transaction

-- an input, without its witness
unfoldable pub input_at : List ℕ → Result (TxIn × List ℕ) ℕ
input_at bytes = do
  id ← chunk 32 bytes
  vout ← number_at w32 id.1
  script ← string_at vout.1
  sequence ← number_at w32 script.1
  Ok (record { prev = record { txid = id.0; vout = vout.0 }; script_sig = script.0; sequence = sequence.0; witness = [] }, sequence.1)

-- at least one input
unfoldable pub inputs_at : List ℕ → Result (List TxIn × List ℕ) ℕ
inputs_at bytes = do
  n ← compact_at not_zero bytes
  many input_at n.0 n.1

unfoldable pub output_at : List ℕ → Result (TxOut × List ℕ) ℕ
output_at bytes = do
  value ← number_at w64 bytes
  script ← string_at value.1
  Ok (record { value = value.0; script = script.0 }, script.1)

unfoldable pub outputs_at : List ℕ → Result (List TxOut × List ℕ) ℕ
outputs_at bytes = do
  n ← compact_at any bytes
  many output_at n.0 n.1

-- what the first byte of a witness's count may be: not 0 where no item has come and this is the last witness
abbrev pub may_be : ℕ → Bool → ℕ → Bool
may_be n true = any
may_be zero false = not_zero
may_be (suc n) false = any

-- the items of a witness, the first byte of whose count passes the test
unfoldable pub witness_at : (ℕ → Bool) → List ℕ → Result (List (List ℕ) × List ℕ) ℕ
witness_at p bytes = do
  n ← compact_at p bytes
  many string_at n.0 n.1

-- so many witnesses, of which one has an item, if none came before
unfoldable pub witnesses_at : ℕ → Bool → List ℕ → Result (List (List (List ℕ)) × List ℕ) ℕ
witnesses_at zero seen bytes = Ok ([], bytes)
witnesses_at (suc n) seen bytes = do
  w ← witness_at (may_be n seen) bytes
  ws ← witnesses_at n (seen || is_filled w.0) w.1
  Ok (w.0 ∷ ws.0, ws.1)

-- the inputs, each with its witness
abbrev pub with_witnesses : List TxIn → List (List (List ℕ)) → List TxIn
with_witnesses [] ws = []
with_witnesses (i ∷ is) [] = i ∷ is
with_witnesses (i ∷ is) (w ∷ ws) = record i { witness = w } ∷ with_witnesses is ws

-- ---- the whole

-- inputs and outputs
abbrev pub Body : Type 0
Body = List TxIn × List TxOut

-- inputs and outputs without marker and witnesses
unfoldable pub plain_at : List ℕ → Result (Body × List ℕ) ℕ
plain_at bytes = do
  inputs ← inputs_at bytes
  outputs ← outputs_at inputs.1
  Ok ((inputs.0, outputs.0), outputs.1)

-- the marker, inputs and outputs, and the witnesses
unfoldable pub marked_at : List ℕ → Result (Body × List ℕ) ℕ
marked_at bytes = do
  marker ← byte_where is_zero bytes
  flag ← byte_where is_one marker.1
  body ← plain_at flag.1
  ws ← witnesses_at (length body.0.0) false body.1
  Ok ((with_witnesses body.0.0 ws.0, body.0.1), ws.1)

unfoldable pub transaction_at : List ℕ → Result (Tx × List ℕ) ℕ
transaction_at bytes = do
  version ← number_at w32 bytes
  body ← choose is_zero marked_at plain_at version.1
  lock ← number_at w32 body.1
  Ok (record { version = version.0; inputs = body.0.0; outputs = body.0.1; lock = lock.0 }, lock.1)

-- the transaction that is all of the bytes, or how many are left at the fault
unfoldable pub all_at : List ℕ → Result Tx ℕ
all_at bytes = do
  tx ← transaction_at bytes
  if length tx.1 == 0 then Ok tx.0 else Err (length tx.1)

-- a fault by its place in bytes of this length, for how many are left there
abbrev pub with_place : ℕ → Result Tx ℕ → Result Tx ℕ
with_place n (Ok tx) = Ok tx
with_place n (Err left) = Err (n - left)

-- the transaction that the bytes spell, or the length of their longest prefix that begins a spelling
abbrev pub transaction_of : List ℕ → Result Tx ℕ
transaction_of bytes = with_place (length bytes) (all_at bytes)

-- the bytes spell no transaction, and p is the length of their longest prefix that begins a spelling
pub record IsBadAt (bytes : List ℕ) (p : ℕ) : Type 0 where
  pub none : (tx : Tx) → Spells bytes tx → ⊥
  pub within : p ≤ length bytes
  pub begins : Begins (take p bytes)
  pub longest : (q : ℕ) → p < q → q ≤ length bytes → Begins (take q bytes) → ⊥
