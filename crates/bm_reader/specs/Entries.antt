-- What entries of a precondition are read as in the code, and the room that they leave.
use Rattle.std.specs.Prelude.{ℕ, List, [], ◌∷◌, ◌++◌, Result, Ok}
use Rattle.spec_terms.specs.declared.pre.Pre.{Pre}
use Rattle.spec_text.specs.declared.stop.Stop.{Stop}
use Rattle.spec_text.specs.Reading.{Reads, ◌>>=◌}
use Rattle.spec_text.specs.ReadAdvert.{EntryKind, persistent, volatile, secret, Room, room_after, room_for, is_full}
use Rattle.bm_reader.specs.declared.precondition.Kind.{Kind}
use Rattle.bm_reader.specs.declared.precondition.Kind.TheVariants as kinds
use Rattle.bm_reader.specs.declared.precondition.Space.{Space}

-- the kind of entry that the code's kind stands for
abbrev pub entry_kind : Kind → EntryKind
entry_kind kinds.Persistent = persistent
entry_kind kinds.Volatile = volatile
entry_kind kinds.Secret = secret

-- how many deposits and secrets may still come
abbrev pub room : Space → Room
room s = (s.deposits, s.secrets)

-- the room behind an entry of this kind, where there is room for it
abbrev pub room_behind : EntryKind → Room → ℕ → Result Room Stop
room_behind k r left = room_for k (is_full k r) left >>= λ u. Ok (room_after k r)

-- entries before those that are still read
abbrev pub with_entries : List Pre → Reads (List Pre) → Reads (List Pre)
with_entries prefix read = read >>= λ r. Ok (prefix ++ r.0, r.1)

-- an entry that is read, at the end of those before it
abbrev pub added : List Pre → Reads (Pre × Room) → Reads (List Pre × Room)
added prefix read = read >>= λ p. Ok ((prefix ++ p.0.0 ∷ [], p.0.1), p.1)
