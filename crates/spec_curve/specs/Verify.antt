-- Whether two numbers sign a digest under a key (SEC 1, section 4.1.4).
use Rattle.std.specs.Prelude.{ℕ, ◌%◌, Bool, false, ◌&&◌, ◌==◌, nat_lt}
use Rattle.spec_curve.specs.Field.{group_order, times, inverse}
use Rattle.spec_curve.specs.Point.{Point, infinity, at, add, multiple, base}

-- whether it is a point, and its first coordinate modulo the order is r
unfoldable pub has_first : ℕ → Point → Bool
has_first r infinity = false
has_first r (at x y) = x % group_order == r

-- u times the base point and v times the key
unfoldable pub sum_of : ℕ → ℕ → Point → Point
sum_of u v key = add (multiple 256 u base) (multiple 256 v key)

-- whether r and s are from 1 to n - 1, and sign z (a digest of 256 bits) under the key
unfoldable pub verifies : ℕ → ℕ → ℕ → Point → Bool
verifies z r s key =
    let n : ℕ = group_order in
    let w : ℕ = inverse n s in
    (nat_lt 0 r && nat_lt r n) && ((nat_lt 0 s && nat_lt s n) && has_first r (sum_of (times n z w) (times n r w) key))
