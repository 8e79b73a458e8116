use Rattle.std.proofs.Common.{◌≡◌, ℕ, ◌+◌, ◌*◌, ◌^◌, arith, ap, sym, subst}
use Rattle.theory_curve.specs.Jacobian.{Stands}
use Rattle.spec_curve.specs.Point.{Point, infinity, multiple}
use Rattle.curve_field.specs.Value.{value}
use Rattle.curve_field.proofs.Values.{value_is}
use Rattle.curve_point.specs.Coordinates.{triple_of, place_of}
use Rattle.curve_point.proofs.multiples.climb.Goals as goal

none : (k : ℕ) (a : Point) → multiple 0 k a ≡ infinity
unfolding multiple
none k a = λ i. infinity

pub returns-clause-stands : goal.returns-clause-stands
returns-clause-stands c =
    let a : Point = place_of c.args.a in
    let k = c.args.k in
    let start : Stands (triple_of c.nowhere.result) (multiple 0 0 a) = subst (Stands (triple_of c.nowhere.result)) (sym (none 0 a)) c.nowhere.ensures.zero in
    let n1 : ℕ = 0 * 2 ^ 64 + k.w3 in
    let n2 : ℕ = n1 * 2 ^ 64 + k.w2 in
    let n3 : ℕ = n2 * 2 ^ 64 + k.w1 in
    let whole : n3 * 2 ^ 64 + k.w0 ≡ value k = omega (arith, value_is k) in
    let first = c.take_word-first.ensures.stands 0 0 start in
    let second = c.take_word-second.ensures.stands 64 n1 first in
    let third = c.take_word-third.ensures.stands 128 n2 second in
    subst (Stands (triple_of c.take_word.result)) (ap (λ z. multiple 256 z a) whole) (c.take_word.ensures.stands 192 n3 third)
