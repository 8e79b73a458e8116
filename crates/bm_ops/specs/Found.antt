-- Where an operation stands at the front of a script's bytes.
use Rattle.std.specs.Prelude.{ℕ, ◌<◌, ◌≤◌, List, drop, slice_range}
use Rattle.spec_bitcoin.specs.declared.script.Op.{Op}
use Rattle.spec_bitcoin.specs.declared.script.Op.TheVariants.{Push, Code}
use Rattle.bm_ops.specs.declared.reading.Found.{Found}
use Rattle.bm_ops.specs.declared.reading.Found.TheVariants.{Span, Single}

-- an operation that was found at the front of the bytes, and what follows it
abbrev pub placed : List ℕ → Found → Op × List ℕ
placed bytes (Span start end) = (Push (slice_range bytes start end), drop end bytes)
placed bytes (Single c) = (Code c, drop 1 bytes)

-- it stands within bytes of this length, after the first
abbrev pub IsWithin : ℕ → Found → Type 0
IsWithin n (Span start end) = (start ≤ end) × (end ≤ n) × (0 < end)
IsWithin n (Single c) = 0 < n
