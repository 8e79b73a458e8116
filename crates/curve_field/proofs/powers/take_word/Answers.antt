use Rattle.std.proofs.Common.{◌≡◌, ℕ, ◌+◌, ◌-◌, ◌*◌, ◌/◌, ◌%◌, ◌^◌, ◌<◌, ◌∙◌, arith, rules, ap}
use Rattle.spec_curve.specs.Field.{power}
use Rattle.curve_field.specs.Value.{value}
use Rattle.curve_field.proofs.Bits.{next_bit}
use Rattle.curve_field.proofs.powers.take_word.Goals as goal

pub loop-b-preserved : goal.loop-b-preserved
loop-b-preserved g c =
    let m : ℕ = g.M.Modulus.modulus in
    let x : ℕ = value c.args.x in
    let b : ℕ = c.loop-b.b in
    let w : ℕ = c.args.word in
    let few : b < 64 = first_of (search rules, omega arith) in
    record {
      below = c.take_bit-all.ensures.below;
      same = λ i n h.
          let next : (i + b) + 1 ≡ i + (b + 1) = omega arith in
          c.take_bit-all.ensures.same (i + b) (n * 2 ^ b + w / 2 ^ (64 - b)) (c.loop-b.invariant.same i n h)
          ∙ (ap (λ z. power z m x (2 * (n * 2 ^ b + w / 2 ^ (64 - b)) + w / 2 ^ (63 - b) % 2)) next
          ∙ ap (λ z. power (i + (b + 1)) m x z) (next_bit n w b few));
    }
