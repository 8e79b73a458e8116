-- What writing to a sink answers and leaves.
use Rattle.std.specs.Prelude.{◌≡◌, ℕ, ◌-◌, Bool, nat_le, if◌then◌else◌, List, [], ◌∷◌, ◌++◌, length, take, min, Option, Some, None}
use Rattle.std.specs.Prelude.{Result, Ok, Err}
use Rattle.std.specs.List.{concat}
use Rattle.bm_io.specs.Counts.{raised}

-- what a write adds to the pieces that were taken: its piece, or on a fault a prefix of it
abbrev pub Writes : {X E : Type 0} → List (List ℕ) → List (List ℕ) → List ℕ → Result X E → Type 0
Writes old new piece (Ok value) = new ≡ old ++ piece ∷ []
Writes old new piece (Err error) = (count : ℕ) × (new ≡ old ++ take count piece ∷ [])

-- ---- a sink in memory

-- a sink in memory is the pieces that it took, the most bytes that it holds, and how often a write has failed
pub record SinkInMemory : Type 0 where
  pub pieces : List (List ℕ)
  pub room : ℕ
  pub faults : ℕ

-- the most that a sink holds, where it may be told to fail earlier
abbrev pub room_of : ℕ → Option ℕ → ℕ
room_of capacity None = capacity
room_of capacity (Some fail_after) = min fail_after capacity

-- a sink that nothing was written to
abbrev pub empty_sink : ℕ → SinkInMemory
empty_sink room = record { pieces = []; room = room; faults = 0 }

-- how many more bytes the sink takes
abbrev pub room_left : SinkInMemory → ℕ
room_left sink = sink.room - length (concat sink.pieces)

-- whether all of the piece fits
abbrev pub fits : SinkInMemory → List ℕ → Bool
fits sink piece = nat_le (length piece) (room_left sink)

-- the sink after a write: as many bytes of the piece as fit, and a fault where not all do
abbrev pub after_write : SinkInMemory → List ℕ → SinkInMemory
after_write sink piece = record sink {
  pieces = sink.pieces ++ take (room_left sink) piece ∷ [];
  faults = if fits sink piece then sink.faults else raised sink.faults;
}

-- ---- a sink over a writer

-- a sink over a writer is the pieces that it took, and how often a write has failed
pub record SinkOfWriter : Type 0 where
  pub pieces : List (List ℕ)
  pub faults : ℕ

-- to which nothing was written
abbrev pub unwritten : SinkOfWriter
unwritten = record { pieces = []; faults = 0 }
