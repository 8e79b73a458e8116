-- Deposits that wallets bring, by their names.
use Rattle.std.specs.Prelude.{◌≡◌, ℕ, List, Bool, not, ◌&&◌, is_some}
use Rattle.std.specs.Str.{bytes_eq}
use Rattle.spec_data.specs.Lists.{is_among}
use Rattle.spec_terms.specs.Precondition.{Holding}
use Rattle.spec_compiler.specs.Keyed.Keys.{Keys, own_script}

-- they are those of the deposits that have scripts of wallets
abbrev pub AreBrought : Keys → List (List ℕ) → Type 0
AreBrought keys brought = (name : List ℕ) → is_some (own_script keys name) ≡ is_among name brought

-- whether a deposit is the party's, and isn't brought by a wallet
abbrev pub is_left : List (List ℕ) → List ℕ → List ℕ × Holding → Bool
is_left brought party d = bytes_eq (d.1).owner party && not (is_among (d.0) brought)
