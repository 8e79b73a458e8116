-- Entries as they are found: by what they are given to, and by their values.
use Rattle.spec_deal.specs.declared.entry.Entry.{Entry}
use Rattle.std.specs.Prelude.{◌≡◌, List, map, filter, Bool}
use Rattle.deal_file.specs.Keying.{is_unique}
use Rattle.deal_file.specs.declared.entries.Entries.{Entries}
use Rattle.deal_file.specs.declared.keying.Given.{Given}
use Rattle.deal_file.specs.declared.keying.Need.{Need}
use Rattle.deal_file.specs.declared.keying.Worth.{Worth}
use Rattle.spec_deal.specs.declared.deal.Needed.{Needed}

abbrev pub needed_in : Need → Needed
needed_in need = need.needed

abbrev pub entry_in : Given → Entry
entry_in given = given.entry

abbrev pub worth_of : Entry → Worth
worth_of entry = record { line = entry.line; value = entry.value }

-- the entries in order
abbrev pub told : Entries → List Entry
told entries = map entry_in entries.given

abbrev pub is_unique_in : Entry → Bool
is_unique_in entry = is_unique entry.value

-- each value that may be given once alone is found by the entry that gives it
abbrev pub IsTied : Entries → Type 0
IsTied entries = entries.worth ≡ map worth_of (filter is_unique_in (told entries))
