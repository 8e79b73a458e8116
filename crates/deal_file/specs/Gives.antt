-- What the readers of lines answer, against what reading gives.
use Rattle.std.specs.Prelude.{◌≡◌, ℕ, List, [], ◌∷◌, ◌++◌, map, Option, Some, None, Result, Ok, Err}
use Rattle.std.specs.List.{find}
use Rattle.std.specs.Str.{bytes_eq}
use Rattle.spec_deal.specs.declared.entry.Entry.{Entry}
use Rattle.spec_deal.specs.declared.fault.DealFault.{DealFault}
use Rattle.spec_deal.specs.declared.fault.DealFault.TheVariants as faults
use Rattle.spec_deal.specs.declared.deal.Needed.{Needed}
use Rattle.spec_deal.specs.DealFile.{Line, empty, bad, gives, if_new}
use Rattle.deal_file.specs.Keying.{need_key}
use Rattle.deal_file.specs.Entries.{needed_in}
use Rattle.deal_file.specs.declared.keying.Need.{Need}
use Rattle.deal_file.specs.declared.error.DealError.{DealError}
use Rattle.deal_file.specs.declared.error.DealError.TheVariants as deals
use Rattle.deal_file.specs.declared.error.LineError.{LineError}
use Rattle.deal_file.specs.declared.error.LineError.TheVariants as lines

-- a line doesn't count where the code says so, unless memory ran out
abbrev pub Stops : LineError → Line → Type 0
Stops (lines.Bad reason) line = line ≡ bad reason
Stops lines.Memory line = Unit {0}

-- what is found by this key
abbrev pub found_need : List Need → List ℕ → Option Needed
found_need needs key = find (λ what. bytes_eq (need_key what) key) (map needed_in needs)

-- what the code says that a line gives, that it gives, if it is new behind these entries
abbrev pub Leads : List Entry → Result Entry LineError → Line → Type 0
Leads entries (Ok entry) line = line ≡ if_new entries entry
Leads entries (Err e) line = Stops e line

-- the same of a line that may have no words
abbrev pub LeadsOn : List Entry → Result (Option Entry) LineError → Line → Type 0
LeadsOn entries (Ok None) line = line ≡ empty
LeadsOn entries (Ok (Some entry)) line = line ≡ if_new entries entry
LeadsOn entries (Err e) line = Stops e line

-- what a line adds to the entries before it
abbrev pub Added : List Entry → List Entry → Line → Type 0
Added old new empty = new ≡ old
Added old new (gives entry) = new ≡ old ++ entry ∷ []
Added old new (bad reason) = ⊥

-- a line is taken, or why it isn't
abbrev pub Takes : {U : Type 0} → List Entry → List Entry → Result U LineError → Line → Type 0
Takes old new (Ok done) line = Added old new line
Takes old new (Err e) line = Stops e line

-- a text is refused where the code says so, unless memory ran out
abbrev pub Refuses : {Y : Type 0} → DealError → Result Y DealFault → Type 0
Refuses (deals.Refused fault) read = read ≡ Err fault
Refuses deals.Memory read = Unit {0}

-- what a function returned, seen by view, is what the text gives, unless memory ran out
abbrev pub Gives : {X Y : Type 0} → (X → Y) → Result X DealError → Result Y DealFault → Type 0
Gives view (Ok x) read = read ≡ Ok (view x)
Gives view (Err e) read = Refuses e read

-- why a text is refused, by its line
abbrev pub at_line : LineError → ℕ → DealError
at_line (lines.Bad reason) n = deals.Refused (faults.Line n reason)
at_line lines.Memory n = deals.Memory
