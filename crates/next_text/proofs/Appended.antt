-- Each once of two lists.
use Rattle.std.proofs.Common.{◌≡◌, ℕ, List, [], ◌∷◌, ◌++◌, refl}
use Rattle.spec_next.specs.Together.{with_line, once_onto}

pub once_append : (seen xs ys : List (List ℕ)) → once_onto seen (xs ++ ys) ≡ once_onto (once_onto seen xs) ys
once_append seen [] ys = refl
once_append seen (x ∷ xs) ys = once_append (with_line seen x) xs ys
