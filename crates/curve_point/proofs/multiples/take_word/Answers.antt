use Rattle.std.proofs.Common.{◌≡◌, ℕ, ◌+◌, ◌-◌, ◌*◌, ◌/◌, ◌^◌, ◌<◌, arith, rules, subst}
use Rattle.theory_curve.specs.Jacobian.{Stands}
use Rattle.spec_curve.specs.Point.{Point, multiple}
use Rattle.curve_field.proofs.Bits.{next_bit, last_bit}
use Rattle.curve_point.specs.Coordinates.{triple_of, place_of}
use Rattle.curve_point.proofs.multiples.take_word.Goals as goal

pub loop-b-preserved : goal.loop-b-preserved
loop-b-preserved c =
    let a : Point = place_of c.args.a in
    let b : ℕ = c.loop-b.b in
    let w : ℕ = c.args.word in
    let few : b < 64 = first_of (search rules, omega arith) in
    record {
      below = c.take_bit-sum.ensures.below;
      stands = λ i n h.
          let next : (i + b) + 1 ≡ i + (b + 1) = omega arith in
          subst (Stands (triple_of c.take_bit-sum.result))
          (λ j. multiple (next j) (next_bit n w b few j) a)
          (c.take_bit-sum.ensures.stands (i + b) (n * 2 ^ b + w / 2 ^ (64 - b)) (c.loop-b.invariant.stands i n h));
    }

pub returns-clause-stands : goal.returns-clause-stands
returns-clause-stands c =
    let a : Point = place_of c.args.a in
    let b : ℕ = c.loop-b.b in
    let w : ℕ = c.args.word in
    let all : b ≡ 64 = first_of (omega arith, search rules) in
    λ i n h. subst (Stands (triple_of c.loop-b.sum)) (λ j. multiple (i + all j) (last_bit n w b all j) a) (c.loop-b.invariant.stands i n h)
