-- The first element of a list of which something holds.
use Rattle.std.specs.Prelude.{◌≡◌, List, [], ◌∷◌, ◌⊎◌}

-- it holds of none
abbrev pub NoneIs : {X : Type 0} → (X → Type 0) → List X → Type 0
NoneIs P [] = Unit {0}
NoneIs P (x ∷ xs) = (P x → ⊥) × NoneIs P xs

-- it holds of this one, and of none before it
abbrev pub IsFirst : {X : Type 0} → (X → Type 0) → List X → X → Type 0
IsFirst P [] first = ⊥
IsFirst P (x ∷ xs) first = (P x × (x ≡ first)) ⊎ ((P x → ⊥) × IsFirst P xs first)

-- it holds of each
abbrev pub EachIs : {X : Type 0} → (X → Type 0) → List X → Type 0
EachIs P [] = Unit {0}
EachIs P (x ∷ xs) = P x × EachIs P xs
