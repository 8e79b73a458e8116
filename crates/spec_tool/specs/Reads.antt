-- What the reads of a command's files answer, and what is taken of them.
use Rattle.std.specs.Prelude.{ℕ, ◌+◌, List, [], ◌∷◌, length, take, map, Bool, true, false, ◌&&◌, ◌==◌, nat_le, if◌then◌else◌, Option, Some}
use Rattle.std.specs.Prelude.{None, slice_get}
use Rattle.std.specs.Option.{option_and_then}
use Rattle.spec_data.specs.Lists.{look_up}
use Rattle.spec_data.specs.Digits.{onto}

-- ---- what is asked for

-- a file by its name, and the most bytes that it may have
abbrev pub Asked : Type 0
Asked = List ℕ × ℕ

-- ---- what is taken

-- the bytes of a file, nothing where it is too long
abbrev pub Text : Type 0
Text = Option (List ℕ)

-- whether what is taken of a file has no more bytes than were asked for
abbrev pub fits : Asked → Text → Bool
fits file None = true
fits file (Some bytes) = nat_le (length bytes) (file.1)

-- whether what is taken of these files, of each in order, has no more bytes than were asked for
abbrev pub all_fit : List Asked → List Text → Bool
all_fit files [] = true
all_fit [] (text ∷ texts) = true
all_fit (file ∷ files) (text ∷ texts) = fits file text && all_fit files texts

-- ---- what is answered

pub data Read : Type 0 where
  -- the bytes of the file, no more of them than were asked for
  got : (bytes : List ℕ) → Read
  -- the file has more bytes
  too_long : Read
  failed : Read

-- whether these are the reads that are made of these files: one of each in order, up to the first that fails, and none that gives more
-- bytes than were asked for
abbrev pub are_made : List Asked → List Read → Bool
are_made [] [] = true
are_made [] (read ∷ reads) = false
are_made (file ∷ files) [] = false
are_made (file ∷ files) (got bytes ∷ reads) = fits file (Some bytes) && are_made files reads
are_made (file ∷ files) (too_long ∷ reads) = are_made files reads
are_made (file ∷ files) (failed ∷ reads) = length reads == 0

-- the names that are asked for in so many reads
abbrev pub names_asked : List Asked → List Read → List (List ℕ)
names_asked files reads = take (length reads) (map (λ file. file.0) files)

-- ---- reads of files whose contents are told

abbrev pub within : ℕ → Option (List ℕ) → Read
within limit None = failed
within limit (Some bytes) = if nat_le (length bytes) limit then got bytes else too_long

-- what a read answers where these files are there
abbrev pub read_in : List (List ℕ × List ℕ) → Asked → Read
read_in there file = within (file.1) (look_up (file.0) there)

-- whether the read that is to fail has this number
abbrev pub is_to_fail : Option ℕ → ℕ → Bool
is_to_fail None number = false
is_to_fail (Some failing) number = failing == number

abbrev pub read_at : List (List ℕ × List ℕ) → Option ℕ → ℕ → Asked → Read
read_at there failing number file = if is_to_fail failing number then failed else read_in there file

abbrev pub onto_reads : Read → List Read → List Read
onto_reads (got bytes) later = got bytes ∷ later
onto_reads too_long later = too_long ∷ later
onto_reads failed later = failed ∷ []

-- what the reads of these files answer, from read `number` on, where these files are there and one read is to fail, or none
abbrev pub reads_in : List (List ℕ × List ℕ) → Option ℕ → ℕ → List Asked → List Read
reads_in there failing number [] = []
reads_in there failing number (file ∷ files) =
    onto_reads (read_at there failing number file) (reads_in there failing (number + 1) files)

-- ---- what the reads give

-- what a read gives, unless it failed
abbrev pub text_read : Read → Option Text
text_read (got bytes) = Some (Some bytes)
text_read too_long = Some None
text_read failed = None

-- what all reads give, unless one failed
abbrev pub texts_read : List Read → Option (List Text)
texts_read [] = Some []
texts_read (read ∷ reads) = onto (text_read read) (texts_read reads)

-- the text of this number
abbrev pub text_at : List Text → ℕ → Text
text_at texts k = option_and_then (λ text. text) (slice_get texts k)
