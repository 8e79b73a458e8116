use Rattle.std.proofs.Common.{ℕ, ◌+◌, ◌-◌, ◌*◌, ◌/◌, ◌^◌}
use Rattle.theory_curve.specs.Jacobian.{Stands}
use Rattle.spec_curve.specs.Point.{Point, multiple}
use Rattle.curve_point.specs.Coordinates.{IsBelow, triple_of, place_of}
use Rattle.curve_point.specs.declared.coordinates.Jacobian.{Jacobian}
use Rattle.curve_point.proofs.multiples.take_word.Given as goal

-- the bits so far are taken in
pub record IsTaken (a : Point) (before after : Jacobian) (w b : ℕ) : Type 0 where
  pub below : IsBelow after
  pub stands : (i n : ℕ) → Stands (triple_of before) (multiple i n a)
      → Stands (triple_of after) (multiple (i + b) (n * 2 ^ b + w / 2 ^ (64 - b)) a)

abbrev pub invariant-loop-b : goal.invariant-loop-b
invariant-loop-b l = IsTaken (place_of l.a) l.fn.t l.sum l.word l.b
