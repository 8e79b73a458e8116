-- What the readers of words and lines answer, against what reading gives.
use Rattle.std.specs.Prelude.{◌≡◌, ℕ, List, [], ◌∷◌, ◌++◌, Option, Some, None, Result, Ok, Err}
use Rattle.spec_run.specs.declared.event.Event.{Event}
use Rattle.spec_text.specs.declared.run_fault.RunFault.{RunFault}
use Rattle.spec_text.specs.declared.run_fault.RunFault.TheVariants as faults
use Rattle.bm_runfile.specs.declared.error.RunError.{RunError}
use Rattle.bm_runfile.specs.declared.error.RunError.TheVariants as runs
use Rattle.spec_text.specs.RunFile.{Line, bad, over, empty, rule, says}
use Rattle.spec_run.specs.declared.header.Header.{Header}
use Rattle.bm_runfile.specs.declared.header.Said.{Said}
use Rattle.bm_runfile.specs.declared.header.Said.TheVariants as said
use Rattle.bm_runfile.specs.declared.error.WordError.{WordError}
use Rattle.bm_runfile.specs.declared.error.WordError.TheVariants as words
use Rattle.bm_runfile.specs.declared.error.LineError.{LineError}
use Rattle.bm_runfile.specs.declared.error.LineError.TheVariants as lines

-- why a line doesn't count whose words spell nothing
abbrev pub of_line : WordError → LineError
of_line words.Bad = lines.Bad
of_line words.Memory = lines.Memory

-- words spell nothing where the code says so, unless memory ran out
abbrev pub FailsAt : {Y : Type 0} → WordError → Option Y → Type 0
FailsAt words.Bad read = read ≡ None
FailsAt words.Memory read = Unit {0}

-- what a function returned, seen by view, is what words spell, unless memory ran out
abbrev pub Reads : {X Y : Type 0} → (X → Y) → Result X WordError → Option Y → Type 0
Reads view (Ok x) read = read ≡ Some (view x)
Reads view (Err e) read = FailsAt e read

-- values before those that are still read
abbrev pub behind : {A : Type 0} → List A → Option (List A) → Option (List A)
behind prefix None = None
behind prefix (Some xs) = Some (prefix ++ xs)

-- a line doesn't count where the code says so, unless memory ran out
abbrev pub Stops : {A : Type 0} → LineError → Line A → Type 0
Stops lines.Bad line = line ≡ bad
Stops (lines.Over limit) line = line ≡ over limit
Stops lines.Memory line = Unit {0}

-- a line of the header is taken, and the header grows by it; or why it isn't
abbrev pub Grows : {U : Type 0} → Header → Header → Result U LineError → Line Header → Type 0
Grows old new (Ok done) line = line ≡ says new
Grows old new (Err e) line = Stops e line

-- what the code says of a line of the header is what the line says; the header grows, or stays
abbrev pub SaysHeader : Header → Header → Result Said LineError → Line Header → Type 0
SaysHeader old new (Ok said.Empty) line = (line ≡ empty) × (new ≡ old)
SaysHeader old new (Ok said.Rule) line = (line ≡ rule) × (new ≡ old)
SaysHeader old new (Ok said.Grown) line = line ≡ says new
SaysHeader old new (Err e) line = Stops e line

-- what the code says of the words behind `--`
abbrev pub SaysRule : Result Said LineError → Line Header → Type 0
SaysRule (Ok said.Rule) line = line ≡ rule
SaysRule (Ok said.Empty) line = ⊥
SaysRule (Ok said.Grown) line = ⊥
SaysRule (Err e) line = Stops e line

-- why a text is no run, by its line
abbrev pub at_line : LineError → ℕ → RunError
at_line lines.Bad n = runs.BadLine n
at_line (lines.Over limit) n = runs.Limit limit n
at_line lines.Memory n = runs.Memory

-- a text is no run for what the code says, unless memory ran out
abbrev pub Refuses : {Y : Type 0} → RunError → Result Y RunFault → Type 0
Refuses (runs.BadLine n) read = read ≡ Err (faults.BadLine n)
Refuses (runs.Limit limit n) read = read ≡ Err (faults.Limit limit n)
Refuses runs.Memory read = Unit {0}

-- what a function returned, seen by view, is what the lines spell, unless memory ran out
abbrev pub Gives : {X Y : Type 0} → (X → Y) → Result X RunError → Result Y RunFault → Type 0
Gives view (Ok x) read = read ≡ Ok (view x)
Gives view (Err e) read = Refuses e read

-- events before those that are still read
abbrev pub with_events : List Event → Result (List Event) RunFault → Result (List Event) RunFault
with_events prefix (Ok list) = Ok (prefix ++ list)
with_events prefix (Err fault) = Err fault

-- what a line of the events adds to those before it
abbrev pub Added : List Event → List Event → Line Event → Type 0
Added old new empty = new ≡ old
Added old new (says event) = new ≡ old ++ event ∷ []
Added old new bad = ⊥
Added old new (over limit) = ⊥
Added old new rule = ⊥

-- a line of the events is taken, or why it isn't
abbrev pub Takes : {U : Type 0} → List Event → List Event → Result U LineError → Line Event → Type 0
Takes old new (Ok done) line = Added old new line
Takes old new (Err e) line = Stops e line
