-- The points of the curve y^2 = x^3 + 7 over the field, and their sums (SEC 1, section 2.2.1).
use Rattle.std.specs.Prelude.{ℕ, zero, suc, ◌/◌, ◌%◌, ◌==◌, if◌then◌else◌}
use Rattle.spec_curve.specs.Field.{field_prime, minus, times, inverse}

pub data Point : Type 0 where
  infinity : Point
  at : (x y : ℕ) → Point

-- the point of slope s through (x, y) and a third point of first coordinate u
abbrev pub third : ℕ → ℕ → ℕ → ℕ → Point
third s x y u =
    let p : ℕ = field_prime in
    let v : ℕ = minus p (minus p (times p s s) x) u in
    at v (minus p (times p s (minus p x v)) y)

unfoldable pub double : Point → Point
double infinity = infinity
double (at x y) =
    let p : ℕ = field_prime in
    if y == 0 then infinity
    else third (times p (times p 3 (times p x x)) (inverse p (times p 2 y))) x y x

unfoldable pub add : Point → Point → Point
add infinity b = b
add (at x y) infinity = at x y
add (at x y) (at u v) =
    let p : ℕ = field_prime in
    if x == u then (if y == v then double (at x y) else infinity)
    else third (times p (minus p v y) (inverse p (minus p u x))) x y u

-- k times the point, where k has at most as many bits as the first number says: by doubling and adding
unfoldable pub multiple : ℕ → ℕ → Point → Point
multiple zero k a = infinity
multiple (suc bits) k a =
    let h : Point = double (multiple bits (k / 2) a) in
    if k % 2 == 1 then add h a else h

-- the base point (SEC 2, section 2.4.1)
abbrev pub base : Point
base =
    at
    0x79BE667EF9DCBBAC55A06295CE870B07029BFCDB2DCE28D959F2815B16F81798
    0x483ADA7726A3C4655DA4FBFC0E1108A8FD17B448A68554199C47D08FFB10D4B8
