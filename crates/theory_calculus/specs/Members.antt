-- When something stands in a list.
use Rattle.std.specs.Prelude.{◌≡◌, ◌⊎◌, List, [], ◌∷◌}

-- it is one of these
abbrev pub Is_in : {A : Type 0} → A → List A → Type 0
Is_in x [] = ⊥
Is_in x (y ∷ ys) = (x ≡ y) ⊎ Is_in x ys
