-- What the readers of lines answer, against what a line says.
use Rattle.std.specs.Prelude.{◌≡◌, ℕ, List, [], ◌∷◌, ◌++◌, Option, Some, None, Result, Ok, Err}
use Rattle.spec_tool.specs.declared.rule.Rule.{Rule}
use Rattle.spec_tool.specs.declared.rule.StrategyFault.{StrategyFault}
use Rattle.spec_tool.specs.declared.rule.StrategyFault.TheVariants as faults
use Rattle.spec_tool.specs.Strategy.{Said, bad, over, empty, says}
use Rattle.bm_runfile.specs.declared.error.WordError.{WordError}
use Rattle.bm_runfile.specs.declared.error.WordError.TheVariants as words
use Rattle.bm_auto.specs.declared.error.StrategyError.{StrategyError}
use Rattle.bm_auto.specs.declared.error.StrategyError.TheVariants as strategies
use Rattle.bm_auto.specs.declared.error.LineError.{LineError}
use Rattle.bm_auto.specs.declared.error.LineError.TheVariants as lines

-- why a line doesn't count whose words spell nothing
abbrev pub of_line : WordError → LineError
of_line words.Bad = lines.Bad
of_line words.Memory = lines.Memory

-- a line doesn't count where the code says so, unless memory ran out
abbrev pub Stops : LineError → Said → Type 0
Stops lines.Bad line = line ≡ bad
Stops lines.Over line = line ≡ over
Stops lines.Memory line = Unit {0}

-- what the code says of a line is what the line says
abbrev pub SaysRule : Result (Option Rule) LineError → Said → Type 0
SaysRule (Ok None) line = line ≡ empty
SaysRule (Ok (Some rule)) line = line ≡ says rule
SaysRule (Err e) line = Stops e line

-- why a text is no strategy, by its line
abbrev pub at_line : LineError → ℕ → StrategyError
at_line lines.Bad n = strategies.BadLine n
at_line lines.Over n = strategies.Limit n
at_line lines.Memory n = strategies.Memory

-- a text is no strategy for what the code says, unless memory ran out
abbrev pub Refuses : {Y : Type 0} → StrategyError → Result Y StrategyFault → Type 0
Refuses (strategies.BadLine n) read = read ≡ Err (faults.BadLine n)
Refuses (strategies.Limit n) read = read ≡ Err (faults.Limit n)
Refuses strategies.Memory read = Unit {0}

-- what a function returned, seen by view, is what the lines spell, unless memory ran out
abbrev pub Gives : {X Y : Type 0} → (X → Y) → Result X StrategyError → Result Y StrategyFault → Type 0
Gives view (Ok x) read = read ≡ Ok (view x)
Gives view (Err e) read = Refuses e read

-- rules before those that are still read
abbrev pub with_rules : List Rule → Result (List Rule) StrategyFault → Result (List Rule) StrategyFault
with_rules prefix (Ok list) = Ok (prefix ++ list)
with_rules prefix (Err fault) = Err fault

-- what a line adds to the rules before it
abbrev pub Added : List Rule → List Rule → Said → Type 0
Added old new empty = new ≡ old
Added old new (says rule) = new ≡ old ++ rule ∷ []
Added old new bad = ⊥
Added old new over = ⊥

-- a line is taken, or why it isn't
abbrev pub Takes : {U : Type 0} → List Rule → List Rule → Result U LineError → Said → Type 0
Takes old new (Ok done) line = Added old new line
Takes old new (Err e) line = Stops e line
