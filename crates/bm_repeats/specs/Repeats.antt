-- Whether two elements of a list are equal by a test.
use Rattle.std.specs.Prelude.{List, [], ◌∷◌, Bool, false, ◌||◌}
use Rattle.std.specs.List.{list_any}

abbrev pub has_repeat : {T : Type 0} → (T → T → Bool) → List T → Bool
has_repeat eq [] = false
has_repeat eq (x ∷ xs) = list_any (λ other. eq other x) xs || has_repeat eq xs
