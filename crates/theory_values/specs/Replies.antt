-- How calls are worked out: what words answer where files of these names and contents are there.
use Rattle.std.specs.Prelude.{ℕ, zero, suc, ◌+◌, ◌*◌, ◌/◌, ◌%◌, ◌^◌, List, [], ◌∷◌, ◌++◌, ◌==◌, Option, Some, None, fold, replicate}
use Rattle.std.specs.Int.{w64, to_le_bytes}
use Rattle.std.specs.List.{flat_map}
use Rattle.std.specs.Map.{lookup}
use Rattle.std.specs.Option.{option_map_or}
use Rattle.spec_tool.specs.Commands.{Command, command_of, files_of, Printed}
use Rattle.spec_tool.specs.Reads.{reads_in}
use Rattle.spec_tool.specs.Answers.{tool_answer}

-- ---- texts

-- lines, each with its line feed
abbrev pub lines : List (List ℕ) → List ℕ
lines texts = flat_map (λ text. text ++ 10 ∷ []) texts

-- ---- calls

abbrev pub replies_to : (List ℕ → List ℕ) → List (List ℕ × List ℕ) → Option Command → Printed
replies_to hash there None = tool_answer hash None []
replies_to hash there (Some command) = tool_answer hash (Some command) (reads_in there None 0 (files_of command))

-- what these words answer where these files are there
abbrev pub replies : (List ℕ → List ℕ) → List (List ℕ) → List (List ℕ × List ℕ) → Printed
replies hash words there = replies_to hash there (command_of words)

-- ---- hashes

abbrev pub stirred : ℕ → ℕ → ℕ
stirred state b = (state * 6364136223846793005 + (b + 1442695040888963407)) % 2 ^ 64

-- a hash of 32 bytes without collisions among the rows: the bytes stirred into 8 bytes, and zeros
abbrev pub small_hash : List ℕ → List ℕ
small_hash message = to_le_bytes w64 (fold stirred 0 message) ++ replicate 24 0

-- ---- SHA-256 of some strings

-- so many bytes of a number, the highest first
abbrev pub highest_first : ℕ → ℕ → List ℕ
highest_first zero n = []
highest_first (suc k) n = highest_first k (n / 256) ++ (n % 256) ∷ []

-- the 32 bytes that stand in the table at a mark; where nothing does, the mark and zeros
abbrev pub by_mark : List (ℕ × ℕ) → ℕ → List ℕ
by_mark rows mark = option_map_or (highest_first 32) (lookup (λ m. m == mark) rows) (to_le_bytes w64 mark ++ replicate 24 0)

-- SHA-256, as a table of what it makes of the strings of one run, since the kernel doesn't compute it: a string stands there as what
-- stirring makes of its bytes, beside the number that its hash spells. The tables come from another implementation
abbrev pub sha_of : List (ℕ × ℕ) → List ℕ → List ℕ
sha_of rows message = by_mark rows (fold stirred 0 message)
