-- Lists that stand in an order.
use Rattle.std.specs.Prelude.{ℕ, nat_lt, Bool, true, ◌&&◌, List, [], ◌∷◌}
use Rattle.std.specs.List.{list_all}

-- whether each element comes before all that stand after it
abbrev pub stands_in_order : {X : Type 0} → (X → X → Bool) → List X → Bool
stands_in_order before [] = true
stands_in_order before (x ∷ xs) = list_all (λ y. before x y) xs && stands_in_order before xs

-- whether each number is less than all that stand after it
abbrev pub are_ascending : List ℕ → Bool
are_ascending numbers = stands_in_order nat_lt numbers
