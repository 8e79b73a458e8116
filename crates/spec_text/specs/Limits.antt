-- The greatest sizes of contract texts and run files; those of what they say stand with the numbers and the terms.
use Rattle.std.specs.Prelude.{ℕ}
pub use Rattle.spec_data.specs.Ranges.{most_text_bytes, most_run_bytes, most_events}

-- bytes of a run file's line without its end
abbrev pub most_line_bytes : ℕ
most_line_bytes = 1048576
