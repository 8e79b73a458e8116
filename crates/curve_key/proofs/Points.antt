-- Points of keys, case by case.
use Rattle.std.proofs.Common.{◌≡◌, ℕ, ◌%◌, refl, List, [], ◌∷◌, Bool, true, false, Some, None}
use Rattle.std.proofs.lemmas.Bool.{eq-eqb, ne_eqb}
use Rattle.spec_curve.specs.Field.{field_prime, minus, times, root}
use Rattle.spec_curve.specs.Point.{at}
use Rattle.spec_curve.specs.Key.{number_of, square_at, of_sign, point_at, is_sign, is_coordinate, point}

pub sign_kept : (sign y : ℕ) → y % 2 ≡ sign % 2 → of_sign sign y ≡ y
unfolding of_sign
sign_kept sign y e = rw (eq-eqb (y % 2) (sign % 2) e, of_sign) refl

pub sign_turned : (sign y : ℕ) → (y % 2 ≡ sign % 2 → ⊥) → of_sign sign y ≡ minus field_prime 0 y
unfolding of_sign
sign_turned sign y e = rw (ne_eqb (y % 2) (sign % 2) e, of_sign) refl

pub point_rooted : (sign x : ℕ) → let y : ℕ = root field_prime (square_at x) in times field_prime y y ≡ square_at x → point_at sign x ≡ Some (at x (of_sign sign y))
unfolding point_at
point_rooted sign x e = let y : ℕ = root field_prime (square_at x) in rw (eq-eqb (times field_prime y y) (square_at x) e, point_at) refl

pub point_rootless : (sign x : ℕ) → let y : ℕ = root field_prime (square_at x) in (times field_prime y y ≡ square_at x → ⊥) → point_at sign x ≡ None
unfolding point_at
point_rootless sign x e = let y : ℕ = root field_prime (square_at x) in rw (ne_eqb (times field_prime y y) (square_at x) e, point_at) refl

pub point_empty : point [] ≡ None
unfolding point
point_empty = refl

pub point_parts : (sign : ℕ) (bytes : List ℕ) → is_sign sign ≡ true → is_coordinate bytes ≡ true → point (sign ∷ bytes) ≡ point_at sign (number_of bytes)
unfolding point
point_parts sign bytes e f = rw (e, f, point) refl

pub point_signless : (sign : ℕ) (bytes : List ℕ) → is_sign sign ≡ false → point (sign ∷ bytes) ≡ None
unfolding point
point_signless sign bytes e = rw (e, point) refl

pub point_above : (sign : ℕ) (bytes : List ℕ) → is_coordinate bytes ≡ false → point (sign ∷ bytes) ≡ None
unfolding point
point_above sign bytes e = by (is_sign sign) refl
  where
    by : (b : Bool) → is_sign sign ≡ b → point (sign ∷ bytes) ≡ None
    by true f = rw (f, e, point) refl
    by false f = rw (f, point) refl
