-- What the reads of a command's files leave in the log of all reads.
use Rattle.std.specs.Prelude.{◌≡◌, ℕ, ◌+◌, List, [], ◌∷◌, ◌++◌, length, take, map, Result, Ok, Err}
use Rattle.bm_io.specs.Counts.{RoseBy}
use Rattle.bm_io.specs.Logs.{Reply, reply_of}
use Rattle.bm_io.specs.declared.files.ReadError.{ReadError}
use Rattle.bm_io.specs.declared.files.ReadError.TheVariants.{Failed, TooLong, Memory}
use Rattle.spec_tool.specs.Reads.{Asked, Read, got, too_long, failed}

-- ---- what the log has of a read

-- the answer to a read
abbrev pub answered : Read → Result (List ℕ) ReadError
answered (got bytes) = Ok bytes
answered too_long = Err TooLong
answered failed = Err Failed

-- a read of this file
abbrev pub entry : Asked → Read → Reply
entry file read = reply_of (file.0) (file.1) (answered read)

-- the reads of these files in order
abbrev pub entries : List Asked → List Read → List Reply
entries [] reads = []
entries (file ∷ files) [] = []
entries (file ∷ files) (read ∷ reads) = entry file read ∷ entries files reads

-- the file that was asked for
abbrev pub asked_in : Reply → Asked
asked_in reply = (reply.name, reply.limit)

-- ---- how many bytes were taken at least

-- one more than the limit of a file that is too long
abbrev pub beyond : Asked → Read → ℕ
beyond file (got bytes) = 0
beyond file too_long = file.1 + 1
beyond file failed = 0

-- of all files that are too long
abbrev pub all_beyond : List Asked → List Read → ℕ
all_beyond [] reads = 0
all_beyond (file ∷ files) [] = 0
all_beyond (file ∷ files) (read ∷ reads) = beyond file read + all_beyond files reads

-- ---- the log after reads

-- The reads of these files are the new entries of the log, in order. A file was too long only where more bytes than its limit were taken.
pub record Logs (before now : List Reply) (taken taken_now : ℕ) (files : List Asked) (reads : List Read) : Type 0 where
  pub logged : now ≡ before ++ entries files reads
  pub counted : RoseBy (all_beyond files reads) taken taken_now

-- the same of one read
pub record LogsOne (before now : List Reply) (taken taken_now : ℕ) (file : Asked) (read : Read) : Type 0 where
  pub logged : now ≡ before ++ entry file read ∷ []
  pub counted : RoseBy (beyond file read) taken taken_now

-- a read for which memory ran out
abbrev pub LogsShortage : List Reply → List Reply → Asked → Type 0
LogsShortage before now file = now ≡ before ++ reply_of (file.0) (file.1) (Err Memory) ∷ []

-- reads for which memory ran out, or after which it was: the new entries of the log asked for a prefix of the files
abbrev pub LogsPrefix : List Reply → List Reply → List Asked → Type 0
LogsPrefix before now files = (new : List Reply) × ((now ≡ before ++ new) × (map asked_in new ≡ take (length new) files))
