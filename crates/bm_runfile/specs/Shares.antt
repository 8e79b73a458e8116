-- The first of parties with amounts.
use Rattle.std.specs.Prelude.{ℕ, List, [], ◌∷◌, Option, Some, None}
use Rattle.spec_text.specs.Words.{◌>>=◌, amount, one_of}

-- a party with an amount
abbrev pub Share : Type 0
Share = List ℕ × ℕ

-- the share at the front
unfoldable pub share_at : List (List ℕ) → List (List ℕ) → Option Share
share_at parties [] = None
share_at parties (party ∷ []) = None
share_at parties (party ∷ value ∷ words) = one_of parties party >>= λ a. amount value >>= λ v. Some (a, v)
