use Rattle.std.proofs.Common.{◌≡◌, ℕ, suc, ◌+◌, ◌*◌, ◌∙◌, arith, rules, ap, sym}
use Rattle.spec_curve.specs.Field.{times, power}
use Rattle.theory_curve.proofs.Bits.{power_odd, power_even}
use Rattle.curve_field.specs.Value.{value}
use Rattle.curve_field.proofs.powers.take_bit.Goals as goal

pub returns-then-bit-eq1-clause-same : goal.returns-then-bit-eq1-clause-same
returns-then-bit-eq1-clause-same g c =
    let m : ℕ = g.M.Modulus.modulus in
    let x : ℕ = value c.args.x in
    let set : c.args.bit ≡ 1 = first_of (search rules, omega arith) in
    λ i n h.
    let bits : suc i ≡ i + 1 = omega arith in
    let number : n * 2 + 1 ≡ 2 * n + c.args.bit = omega (arith, set) in
    c.multiply.ensures.same
    ∙ (ap (λ z. times m z x) (c.multiply-square.ensures.same ∙ ap (λ z. times m z z) h)
    ∙ (sym (power_odd i m x n) ∙ (λ j. power (bits j) m x (number j))))

pub returns-else-bit-eq1-clause-same : goal.returns-else-bit-eq1-clause-same
returns-else-bit-eq1-clause-same g c =
    let m : ℕ = g.M.Modulus.modulus in
    let x : ℕ = value c.args.x in
    let clear : c.args.bit ≡ 0 = first_of (omega arith, grind arith) in
    λ i n h.
    let bits : suc i ≡ i + 1 = omega arith in
    let number : n * 2 ≡ 2 * n + c.args.bit = omega (arith, clear) in
    c.multiply-square.ensures.same
    ∙ (ap (λ z. times m z z) h
    ∙ (sym (power_even i m x n) ∙ (λ j. power (bits j) m x (number j))))
