-- The signature of a branch that asks a party, as code finds it.
use Rattle.std.specs.Prelude.{ℕ, List, [], ◌∷◌}
use Rattle.spec_bitcoin.specs.Keys.{Pair}

-- the pair of a key and the first of these digests, if there is one
abbrev pub first_pair : List ℕ → List (List ℕ) → List Pair
first_pair key [] = []
first_pair key (digest ∷ digests) = (key, digest) ∷ []
