-- The place of the first mark in a word.
use Rattle.std.specs.Prelude.{ℕ, suc, List, [], ◌∷◌, Bool, ◌==◌, if◌then◌else◌, Option, Some}

abbrev pub is_mark : ℕ → ℕ → Bool
is_mark mark = λ b. b == mark

-- how many bytes stand before the first mark
abbrev pub place : ℕ → List ℕ → ℕ
place mark [] = 0
place mark (b ∷ bytes) = if b == mark then 0 else suc (place mark bytes)

abbrev pub one_mark : List ℕ → List ℕ → Option (List ℕ × List ℕ)
one_mark prefix back = Some (prefix, back)
