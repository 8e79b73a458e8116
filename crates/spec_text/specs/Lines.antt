-- Lines of a text and words of a line.
use Rattle.std.specs.Prelude.{ℕ, List, [], ◌∷◌, Bool, true, false, ◌&&◌, ◌||◌, ◌==◌}

-- ---- parts between bytes

abbrev pub onto_first : ℕ → List (List ℕ) → List (List ℕ)
onto_first b [] = (b ∷ []) ∷ []
onto_first b (part ∷ parts) = (b ∷ part) ∷ parts

abbrev pub cut_byte : Bool → ℕ → List (List ℕ) → List (List ℕ)
cut_byte true b parts = [] ∷ parts
cut_byte false b parts = onto_first b parts

-- the parts between the bytes that pass the test
abbrev pub parts_of : (ℕ → Bool) → List ℕ → List (List ℕ)
parts_of test [] = [] ∷ []
parts_of test (b ∷ bytes) = cut_byte (test b) b (parts_of test bytes)

abbrev pub onto_words : List ℕ → List (List ℕ) → List (List ℕ)
onto_words [] words = words
onto_words (b ∷ bytes) words = (b ∷ bytes) ∷ words

-- the parts that aren't empty
abbrev pub filled : List (List ℕ) → List (List ℕ)
filled [] = []
filled (part ∷ parts) = onto_words part (filled parts)

-- ---- words

-- space and tab
abbrev pub is_space : ℕ → Bool
is_space b = (b == 32) || (b == 9)

-- the words of a line; spaces and tabs stand between them
abbrev pub words_of : List ℕ → List (List ℕ)
words_of line = filled (parts_of is_space line)

-- ---- lines

abbrev pub begins_line_feed : List ℕ → Bool
begins_line_feed [] = false
begins_line_feed (b ∷ bytes) = b == 10

-- what a byte is among lines
pub data LineByte : Type 0 where
  line_feed : LineByte
  -- a carriage return with a line feed behind it
  dropped : LineByte
  kept : LineByte

abbrev pub if_feed : Bool → Bool → LineByte
if_feed true return = line_feed
if_feed false true = dropped
if_feed false false = kept

-- what a byte is, by those behind it
abbrev pub line_byte : ℕ → List ℕ → LineByte
line_byte b bytes = if_feed (b == 10) ((b == 13) && begins_line_feed bytes)

abbrev pub onto_lines : LineByte → ℕ → List (List ℕ) → List (List ℕ)
onto_lines line_feed b lines = [] ∷ lines
onto_lines dropped b lines = lines
onto_lines kept b lines = onto_first b lines

-- The lines of a text. Each ends with a line feed, which the last may lack; one carriage return before a line
-- feed belongs to it.
abbrev pub lines_of : List ℕ → List (List ℕ)
lines_of [] = []
lines_of (b ∷ bytes) = onto_lines (line_byte b bytes) b (lines_of bytes)
