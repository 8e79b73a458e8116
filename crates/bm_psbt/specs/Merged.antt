-- Two lists of signatures that are gone through side by side, both in ascending order of their keys.
use Rattle.std.specs.Prelude.{ℕ, List, [], ◌∷◌, if◌then◌else◌, Option, Some, None}
use Rattle.std.specs.Str.{bytes_eq}
use Rattle.spec_tool.specs.Psbt.{Pairing, is_before}

-- the signatures from the first on whose key doesn't come before this one
abbrev pub not_before : List ℕ → List Pairing → List Pairing
not_before key [] = []
not_before key (q ∷ qs) = if is_before (q.0) key then not_before key qs else q ∷ qs

-- without the first, if it has this key
abbrev pub without_first : List ℕ → List Pairing → List Pairing
without_first key [] = []
without_first key (q ∷ qs) = if bytes_eq (q.0) key then qs else q ∷ qs

-- the signatures before the first whose key doesn't come before this one
abbrev pub before_key : List ℕ → List Pairing → List Pairing
before_key key [] = []
before_key key (q ∷ qs) = if is_before (q.0) key then q ∷ before_key key qs else []

-- the signature of the first, if it has this key
abbrev pub at_first : List ℕ → List Pairing → Option (List ℕ)
at_first key [] = None
at_first key (q ∷ qs) = if bytes_eq (q.0) key then Some (q.1) else None
