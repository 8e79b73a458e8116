-- Strings as they are kept.
use Rattle.std.specs.Prelude.{ℕ, List}
use Rattle.spec_deal.specs.declared.entry.Shown.{Shown}
use Rattle.deal_secrets.specs.declared.strings.Entry.{Entry}

abbrev pub shown_in : Entry → Shown
shown_in entry = entry.shown

-- a string that no line gives
abbrev pub shown_by : List ℕ × List ℕ → Shown
shown_by p = record { line = 0; name = p.0; bytes = p.1 }
