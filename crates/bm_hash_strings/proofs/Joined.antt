-- Whether strings that are joined of two are the same.
use Rattle.std.proofs.Common.{◌≡◌, ℕ, List, [], ◌∷◌, ◌++◌, length, Bool, true, false, refl, ap, ◌∙◌, arith}
use Rattle.std.specs.Prelude.{◌&&◌, ◌==◌}
use Rattle.std.specs.Str.{bytes_eq}

and_assoc : (a b c : Bool) → (a && (b && c)) ≡ ((a && b) && c)
and_assoc true b c = refl
and_assoc false b c = refl

-- two strings behind strings of one length
pub same_behind : (k l s t : List ℕ) → length k ≡ length l → bytes_eq (k ++ s) (l ++ t) ≡ (bytes_eq k l && bytes_eq s t)
same_behind [] [] s t e = refl
same_behind [] (y ∷ l) s t e = absurd (omega (arith, e))
same_behind (x ∷ k) [] s t e = absurd (omega (arith, e))
same_behind (x ∷ k) (y ∷ l) s t e =
    let e' : length k ≡ length l = omega (arith, e) in
    ap (λ b. (x == y) && b) (same_behind k l s t e') ∙ and_assoc (x == y) (bytes_eq k l) (bytes_eq s t)
