use Rattle.std.proofs.Common.{◌≡◌, suc, ◌+◌, ◌*◌, ◌∙◌, arith, rules, sym, subst}
use Rattle.theory_curve.specs.Jacobian.{Stands}
use Rattle.spec_curve.specs.Point.{Point, double, multiple}
use Rattle.theory_curve.proofs.Bits.{multiple_even, multiple_odd}
use Rattle.curve_point.specs.Coordinates.{triple_of, place_of}
use Rattle.curve_point.proofs.multiples.take_bit.Goals as goal

pub returns-then-bit-eq1-clause-stands : goal.returns-then-bit-eq1-clause-stands
returns-then-bit-eq1-clause-stands c =
    let a : Point = place_of c.args.a in
    let set : c.args.bit ≡ 1 = first_of (search rules, omega arith) in
    λ i n h.
    let bits : suc i ≡ i + 1 = omega arith in
    let number : n * 2 + 1 ≡ 2 * n + c.args.bit = omega (arith, set) in
    subst (Stands (triple_of c.join.result)) (sym (multiple_odd i n a) ∙ (λ j. multiple (bits j) (number j) a))
    (c.join.ensures.stands (double (multiple i n a)) (c.twice-twofold.ensures.stands (multiple i n a) h))

pub returns-else-bit-eq1-clause-stands : goal.returns-else-bit-eq1-clause-stands
returns-else-bit-eq1-clause-stands c =
    let a : Point = place_of c.args.a in
    let clear : c.args.bit ≡ 0 = first_of (omega arith, grind arith) in
    λ i n h.
    let bits : suc i ≡ i + 1 = omega arith in
    let number : n * 2 ≡ 2 * n + c.args.bit = omega (arith, clear) in
    subst (Stands (triple_of c.twice-twofold.result)) (sym (multiple_even i n a) ∙ (λ j. multiple (bits j) (number j) a))
    (c.twice-twofold.ensures.stands (multiple i n a) h)
