-- A comparison of bytes, piece by piece.
use Rattle.std.proofs.Common.{◌≡◌, ℕ, List, [], ◌∷◌, ◌++◌, length, take, drop, Bool, true, false, refl, ap, ◌∙◌}
use Rattle.std.specs.Prelude.{◌&&◌, nat_eq}
use Rattle.std.specs.Str.{bytes_eq}

and_along : (a b c : Bool) → (a && (b && c)) ≡ ((a && b) && c)
and_along true b c = refl
and_along false b c = refl

pub bytes_eq_piece : (xs piece tail : List ℕ)
    → bytes_eq xs (piece ++ tail) ≡ (bytes_eq (take (length piece) xs) piece && bytes_eq (drop (length piece) xs) tail)
bytes_eq_piece [] [] tail = refl
bytes_eq_piece (x ∷ xs) [] tail = refl
bytes_eq_piece [] (p ∷ piece) tail = refl
bytes_eq_piece (x ∷ xs) (p ∷ piece) tail =
    ap (λ b. nat_eq x p && b) (bytes_eq_piece xs piece tail)
    ∙ and_along (nat_eq x p) (bytes_eq (take (length piece) xs) piece) (bytes_eq (drop (length piece) xs) tail)
