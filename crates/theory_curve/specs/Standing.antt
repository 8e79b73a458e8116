-- What sums of triples stand for.
use Rattle.std.specs.Prelude.{◌≡◌, ℕ, ◌<◌}
use Rattle.spec_curve.specs.Field.{field_prime, times, inverse}
use Rattle.spec_curve.specs.Point.{Point, at, double, add}
use Rattle.theory_curve.specs.Jacobian.{Triple, StandsAt, Stands, doubled, run, added}

-- a doubled triple stands for the doubled point, infinity and points of second coordinate 0 too
abbrev pub DoublingStands : Type 0
DoublingStands = (t : Triple) (a : Point) → Stands t a → Stands (doubled t) (double a)

-- a sum with another first coordinate stands for the sum
abbrev pub AddingStands : Type 0
AddingStands =
    (t : Triple) (a : Point) (u v : ℕ) → 0 < t.z → u < field_prime → 0 < run t u → Stands t a → Stands (added t u v) (add a (at u v))

-- by the inverse of Z a triple gives the coordinates of its point
abbrev pub TriplesGiveFirst : Type 0
TriplesGiveFirst =
    (t : Triple) (x y : ℕ) → StandsAt t x y
    → let z : ℕ = inverse field_prime t.z in times field_prime t.x (times field_prime z z) ≡ x

abbrev pub TriplesGiveSecond : Type 0
TriplesGiveSecond =
    (t : Triple) (x y : ℕ) → StandsAt t x y
    → let z : ℕ = inverse field_prime t.z in times field_prime t.y (times field_prime z (times field_prime z z)) ≡ y
