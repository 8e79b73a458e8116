-- The greatest size of a chain file.
use Rattle.std.specs.Prelude.{ℕ}

-- bytes of a chain file
abbrev pub most_chain_bytes : ℕ
most_chain_bytes = 8388608
