-- The files that a call asks for, and the reads that are made of them.
use Rattle.std.specs.Prelude.{ℕ, List, [], length, Bool, ◌==◌, Option, Some, None}
use Rattle.std.specs.Borrow.{Bor}
use Rattle.spec_tool.specs.Reads.{Asked, Read, are_made}

-- a file that is asked for, as the code names it
abbrev pub asked : Bor (List ℕ) × ℕ → Asked
asked file = ((file.0).now, file.1)

-- all that are asked for; words that are no command ask for none
abbrev pub all_asked : Option (List Asked) → List Asked
all_asked None = []
all_asked (Some files) = files

-- whether these are the reads of a call that asks for these files
abbrev pub are_reads : Option (List Asked) → List Read → Bool
are_reads None reads = length reads == 0
are_reads (Some files) reads = are_made files reads
