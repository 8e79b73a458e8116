-- What the contracts of a run are compiled to, by their number.
use Rattle.std.specs.Prelude.{ℕ, List, Option, Some, None, slice_get, slice_set}
use Rattle.std.specs.Option.{option_and_then}
use Rattle.bm_compile.specs.Numbered.{Numbered}

-- what the contract of this number is compiled to, where it is
abbrev pub compiled_at : List (Option Numbered) → ℕ → Option Numbered
compiled_at compiled contract = option_and_then (λ (o : Option Numbered). o) (slice_get compiled contract)

-- the list where the contract of this number is compiled so, if there is one
abbrev pub placed : Option (ℕ × Numbered) → List (Option Numbered) → List (Option Numbered)
placed None compiled = compiled
placed (Some entry) compiled = slice_set compiled entry.0 (Some entry.1)
