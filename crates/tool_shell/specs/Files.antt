-- What the reads of a command's files say and leave, of files that may tell nothing.
use Rattle.std.specs.Prelude.{◌≡◌, ℕ, ◌+◌, List, [], ◌∷◌, ◌++◌, length, take, drop, map, Bool, true, false, Option, Some, None}
use Rattle.bm_io.specs.Counts.{RoseBy}
use Rattle.bm_io.specs.Files.{Told}
use Rattle.spec_tool.specs.Reads.{Asked, Read, Text, got, too_long, failed, are_made, names_asked, read_at, reads_in}
use Rattle.tool_shell.specs.declared.reading.Reading.{Reading}

-- ---- reads

-- the read that gave this, nothing where it failed
abbrev pub read_of : Option Text → Read
read_of None = failed
read_of (Some None) = too_long
read_of (Some (Some bytes)) = got bytes

-- the reads that gave these texts
abbrev pub taken : List Text → List Read
taken texts = map (λ text. read_of (Some text)) texts

abbrev pub last_of : Bool → List Read
last_of true = failed ∷ []
last_of false = []

-- the reads that gave this
abbrev pub reads_of : Reading → List Read
reads_of reading = taken reading.texts ++ last_of reading.failed

-- ---- what is told

-- with these names asked for besides
abbrev pub asked_also : Told → List (List ℕ) → Told
asked_also told names = record told { asked = told.asked ++ names }

-- one read: what whoever tells says, and tells then
abbrev pub ReadsOne : Option Told → Option Told → Asked → Read → Type 0
ReadsOne None now file read = now ≡ None
ReadsOne (Some told) now file read =
    (read ≡ read_at told.files told.failing (length told.asked) file) × (now ≡ Some (asked_also told (file.0 ∷ [])))

-- a read for which memory ran out asked for its file, or for none
abbrev pub AsksOne : Option Told → Option Told → List ℕ → Type 0
AsksOne None now name = now ≡ None
AsksOne (Some told) now name = (n : ℕ) × (now ≡ Some (asked_also told (take n (name ∷ []))))

-- the reads of these files in order, up to the first that fails: what whoever tells says, and tells then
abbrev pub Tells : Option Told → Option Told → List Asked → List Read → Type 0
Tells None now files reads = now ≡ None
Tells (Some told) now files reads =
    (reads ≡ reads_in told.files told.failing (length told.asked) files) × (now ≡ Some (asked_also told (names_asked files reads)))

-- these are the reads of these files, and so whoever tells says
pub record ReadsAll (before now : Option Told) (files : List Asked) (reads : List Read) : Type 0 where
  pub made : are_made files reads ≡ true
  pub told : Tells before now files reads

-- reads for which memory ran out asked for a prefix of the files
abbrev pub AsksPrefix : Option Told → Option Told → List Asked → Type 0
AsksPrefix None now files = now ≡ None
AsksPrefix (Some told) now files = (n : ℕ) × (now ≡ Some (asked_also told (take n (map (λ file. file.0) files))))

-- a read fails only where the count of faults rose
abbrev pub RoseIfFailed : ℕ → ℕ → Reading → Type 0
RoseIfFailed before now reading = reading.failed ≡ true → RoseBy 1 before now

-- unless a read failed, there is a text for each file
abbrev pub CountsAll : Reading → List Asked → Type 0
CountsAll reading files = reading.failed ≡ false → length reading.texts ≡ length files

-- ---- midway

-- what is told once these texts were read, of the first files
abbrev pub Went : Option Told → Option Told → List Asked → List Text → Type 0
Went None now files texts = now ≡ None
Went (Some told) now files texts =
    (taken texts ++ reads_in told.files told.failing (length told.asked + length texts) (drop (length texts) files)
    ≡ reads_in told.files told.failing (length told.asked) files)
    × (now ≡ Some (asked_also told (take (length texts) (map (λ file. file.0) files))))
