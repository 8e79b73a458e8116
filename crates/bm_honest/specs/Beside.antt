-- A party's key of a branch, of those that a compiled contract has.
use Rattle.std.specs.Prelude.{ℕ, List, [], ◌∷◌, if◌then◌else◌, Option, Some, None}
use Rattle.std.specs.Str.{bytes_eq}

-- of these participants, who have these keys of a branch, the party's key
abbrev pub key_beside : List ℕ → List (List ℕ) → List (List ℕ) → Option (List ℕ)
key_beside party [] keys = None
key_beside party (p ∷ ps) [] = None
key_beside party (p ∷ ps) (k ∷ ks) = if bytes_eq p party then Some k else key_beside party ps ks
