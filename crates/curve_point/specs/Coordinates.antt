-- The points that coordinates in words stand for.
use Rattle.std.specs.Prelude.{◌<◌, Option, Some, None}
use Rattle.spec_curve.specs.Field.{field_prime}
use Rattle.theory_curve.specs.Jacobian.{Triple}
use Rattle.spec_curve.specs.Point.{Point, infinity, at}
use Rattle.curve_field.specs.Value.{value}
use Rattle.curve_point.specs.declared.coordinates.Affine.{Affine}
use Rattle.curve_point.specs.declared.coordinates.Jacobian.{Jacobian}

abbrev pub triple_of : Jacobian → Triple
triple_of t = record { x = value t.x; y = value t.y; z = value t.z }

-- each coordinate is below the prime
pub record IsBelow (t : Jacobian) : Type 0 where
  pub x : value t.x < field_prime
  pub y : value t.y < field_prime
  pub z : value t.z < field_prime

abbrev pub place_of : Affine → Point
place_of a = at (value a.x) (value a.y)

-- both coordinates are below the prime
pub record IsAffine (a : Affine) : Type 0 where
  pub x : value a.x < field_prime
  pub y : value a.y < field_prime

-- the point, and infinity for none
abbrev pub point_of : Option Affine → Point
point_of (Some a) = place_of a
point_of None = infinity
