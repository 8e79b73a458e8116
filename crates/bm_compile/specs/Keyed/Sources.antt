-- What is hashed to have the key of a label: its text by the key plan, and nothing where the key is given.
use Rattle.std.specs.Prelude.{ℕ, List, [], ◌∷◌}
use Rattle.spec_bitcoin.specs.declared.label.Label.{Label}
use Rattle.spec_bitcoin.specs.declared.label.Label.TheVariants.{Deposit, Branch}
use Rattle.spec_bitcoin.specs.Keys.{label_text}
use Rattle.spec_compiler.specs.Keyed.Keys.{Keys, by_plan, given}

abbrev pub label_strings : Keys → Label → List (List ℕ)
label_strings by_plan label = label_text label ∷ []
label_strings (given keys own) label = []

-- a label as it is for another party
abbrev pub named_for : Label → List ℕ → Label
named_for (Deposit party) other = Deposit other
named_for (Branch contract path party) other = Branch contract path other
