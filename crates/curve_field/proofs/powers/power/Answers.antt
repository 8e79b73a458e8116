use Rattle.std.proofs.Common.{◌≡◌, ℕ, ◌+◌, ◌*◌, ◌^◌, ◌∙◌, arith, ap, sym}
use Rattle.spec_curve.specs.Field.{power}
use Rattle.curve_field.specs.Value.{value}
use Rattle.curve_field.proofs.Exponents.{power_none}
use Rattle.curve_field.proofs.Values.{value_is}
use Rattle.curve_field.proofs.powers.power.Goals as goal

pub returns-clause-same : goal.returns-clause-same
returns-clause-same g c =
    let m : ℕ = g.M.Modulus.modulus in
    let x : ℕ = value c.args.x in
    let k = c.args.k in
    let none : value c.small.result ≡ power 0 m x 0 = c.small.ensures ∙ sym (power_none m x 0 g.met.M.Modulus.proper) in
    let n1 : ℕ = 0 * 2 ^ 64 + k.w3 in
    let n2 : ℕ = n1 * 2 ^ 64 + k.w2 in
    let n3 : ℕ = n2 * 2 ^ 64 + k.w1 in
    let first = c.take_word-first.ensures.same 0 0 none in
    let second = c.take_word-second.ensures.same 64 n1 first in
    let third = c.take_word-third.ensures.same 128 n2 second in
    c.take_word.ensures.same 192 n3 third ∙ ap (λ z. power 256 m x z) (omega (arith, value_is k))
