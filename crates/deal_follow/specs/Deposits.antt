-- The deposits of a deal, by their places.
use Rattle.std.specs.Prelude.{ℕ, ◌+◌, List, [], ◌∷◌}
use Rattle.spec_data.specs.Lists.{look_up}
use Rattle.spec_terms.specs.Precondition.{Holding}
use Rattle.spec_bitcoin.specs.declared.tx.OutPoint.{OutPoint}
use Rattle.spec_compiler.specs.Keyed.Transactions.{outpoint_or_none}
use Rattle.spec_chain.specs.declared.output.Held.TheVariants.{Deposit}
use Rattle.spec_chain.specs.declared.output.Output.{Output}

-- the deposit of a name, where names lie at these places
abbrev pub deposit_by : List (List ℕ × OutPoint) → ℕ → List ℕ → ℕ → Output
deposit_by bound number name value =
    record { number = number; held = Deposit name; place = outpoint_or_none (look_up name bound); value = value }

-- these deposits, with numbers from n on
abbrev pub deposits_by : List (List ℕ × OutPoint) → ℕ → List (List ℕ × Holding) → List Output
deposits_by bound n [] = []
deposits_by bound n (d ∷ ds) = deposit_by bound n (d.0) (d.1).value ∷ deposits_by bound (n + 1) ds
