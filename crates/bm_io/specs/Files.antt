-- What reading a file by its name answers and leaves.
use Rattle.std.specs.Prelude.{◌≡◌, ℕ, ◌+◌, ◌≤◌, Bool, false, ◌==◌, nat_le, if◌then◌else◌, List, [], ◌∷◌, ◌++◌, length, Option, Some, None}
use Rattle.std.specs.Prelude.{Result, Ok, Err, min}
use Rattle.std.specs.Str.{bytes_eq}
use Rattle.spec_data.specs.Lists.{look_up}
use Rattle.bm_io.specs.Counts.{RoseBy, raised, last_count}
use Rattle.bm_io.specs.Logs.{Reply, reply_of}
use Rattle.bm_io.specs.declared.files.ReadError.{ReadError}
use Rattle.bm_io.specs.declared.files.ReadError.TheVariants.{Failed, TooLong, Memory}

-- what files tell of themselves: the bytes of each by its name, the names asked so far, and the number of the read that is to fail
pub record Told : Type 0 where
  pub files : List (List ℕ × List ℕ)
  pub asked : List (List ℕ)
  pub failing : Option ℕ

-- ---- the answer of a read

-- whether the read that is to fail is this one
abbrev pub is_number : Option ℕ → ℕ → Bool
is_number None number = false
is_number (Some failing) number = failing == number

-- the bytes, if they are no more than the limit
abbrev pub within : ℕ → List ℕ → Result (List ℕ) ReadError
within limit bytes = if nat_le (length bytes) limit then Ok bytes else Err TooLong

-- the answer that a file gives, if it is there
abbrev pub answer_of_file : ℕ → Option (List ℕ) → Result (List ℕ) ReadError
answer_of_file limit None = Err Failed
answer_of_file limit (Some bytes) = within limit bytes

-- what a read of this name answers, unless memory has run out
abbrev pub answer_of : Told → List ℕ → ℕ → Result (List ℕ) ReadError
answer_of told name limit =
    if is_number told.failing (length told.asked) then Err Failed else answer_of_file limit (look_up name told.files)

-- the result is this answer, or says that memory has run out
abbrev pub IsUnlessMemory : {X : Type 0} → Result X ReadError → Result X ReadError → Type 0
IsUnlessMemory (Ok value) answer = Ok value ≡ answer
IsUnlessMemory (Err Failed) answer = Err Failed ≡ answer
IsUnlessMemory (Err TooLong) answer = Err TooLong ≡ answer
IsUnlessMemory (Err Memory) answer = Unit {0}

-- ---- what a read leaves

-- what is told after a read: its name was asked, unless memory ran out
abbrev pub told_after : {X : Type 0} → Told → List ℕ → Result X ReadError → Told
told_after told name (Ok value) = record told { asked = told.asked ++ name ∷ [] }
told_after told name (Err Failed) = record told { asked = told.asked ++ name ∷ [] }
told_after told name (Err TooLong) = record told { asked = told.asked ++ name ∷ [] }
told_after told name (Err Memory) = told

-- a read of files that may tell nothing: whoever tells is bound by it, and goes on telling
abbrev pub Reads : Option Told → Option Told → List ℕ → ℕ → Result (List ℕ) ReadError → Type 0
Reads None now name limit result = now ≡ None
Reads (Some told) now name limit result = IsUnlessMemory result (answer_of told name limit) × (now ≡ Some (told_after told name result))

-- a result, seen by what a value of it shows
abbrev pub shown : {X Y E : Type 0} → (X → Y) → Result X E → Result Y E
shown show (Ok value) = Ok (show value)
shown show (Err error) = Err error

-- ---- the counts of faults and of bytes taken

-- the count of faults never falls, and rose in a read that failed
pub record Causes {X : Type 0} (before now : ℕ) (result : Result X ReadError) : Type 0 where
  pub later : before ≤ now
  pub failed : result ≡ Err Failed → RoseBy 1 before now

-- a file is too long only where more than the limit was taken
abbrev pub CausesTooLong : {X : Type 0} → ℕ → ℕ → ℕ → Result X ReadError → Type 0
CausesTooLong before now limit result = result ≡ Err TooLong → RoseBy (limit + 1) before now

-- ---- files in memory

-- files in memory are what they tell, how often a read has failed, how many bytes were taken, and the reads so far
pub record FilesInMemory : Type 0 where
  pub told : Told
  pub faults : ℕ
  pub taken : ℕ
  pub log : List Reply

-- no file, no name asked, and no read that is to fail
abbrev pub no_files : FilesInMemory
no_files = record { told = record { files = []; asked = []; failing = None }; faults = 0; taken = 0; log = [] }

-- the files with these bytes under this name, in the place of those that it had
abbrev pub with_file : List ℕ → List ℕ → List (List ℕ × List ℕ) → List (List ℕ × List ℕ)
with_file name bytes [] = (name, bytes) ∷ []
with_file name bytes (file ∷ files) = if bytes_eq (file.0) name then (file.0, bytes) ∷ files else file ∷ with_file name bytes files

-- the count of faults after a read
abbrev pub faults_after : {X : Type 0} → ℕ → Result X ReadError → ℕ
faults_after faults (Ok value) = faults
faults_after faults (Err Failed) = raised faults
faults_after faults (Err TooLong) = faults
faults_after faults (Err Memory) = faults

-- the count of bytes taken after a read, which takes one more than the limit of a file that is too long
abbrev pub taken_after : ℕ → ℕ → Result (List ℕ) ReadError → ℕ
taken_after taken limit (Ok bytes) = min (taken + length bytes) last_count
taken_after taken limit (Err Failed) = taken
taken_after taken limit (Err TooLong) = raised (min (taken + limit) last_count)
taken_after taken limit (Err Memory) = taken

-- files in memory after a read, but for what it took and answered
abbrev pub after_search : {X : Type 0} → FilesInMemory → List ℕ → Result X ReadError → FilesInMemory
after_search files name result = record files { told = told_after files.told name result; faults = faults_after files.faults result }

-- files in memory after a read
abbrev pub after_read : FilesInMemory → List ℕ → ℕ → Result (List ℕ) ReadError → FilesInMemory
after_read files name limit result = record (after_search files name result) {
  taken = taken_after files.taken limit result;
  log = files.log ++ reply_of name limit result ∷ [];
}

-- ---- files of the system

-- files of the system are how often a read has failed, how many bytes were taken, and the reads so far
pub record FilesOfSystem : Type 0 where
  pub faults : ℕ
  pub taken : ℕ
  pub log : List Reply

-- of which nothing was read
abbrev pub unread : FilesOfSystem
unread = record { faults = 0; taken = 0; log = [] }
