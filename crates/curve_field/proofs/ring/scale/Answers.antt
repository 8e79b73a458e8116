use Rattle.std.proofs.Common.{◌≡◌, ◌+◌, ◌*◌, ◌^◌, ◌%◌, ◌≤◌, ◌∙◌, ap, arith, rules}
use Rattle.std.proofs.Math.Nat.{mul-le-mul_left}
use Rattle.spec_curve.specs.Field.{field_prime, times}
use Rattle.curve_field.specs.Value.{value}
use Rattle.curve_field.proofs.Values.{WordsFit, value_below}
use Rattle.curve_field.proofs.ring.scale.Goals as goal

pub fold-requires : goal.fold-requires
fold-requires c =
    let f : WordsFit c.args.x = record { f0 = search rules; f1 = search rules; f2 = search rules; f3 = search rules } in
    let e = c.lower-low.ensures ∙ c.row_of-more.ensures in
    let few : c.args.by ≤ 256 = omega (arith, c.requires) in
    omega (arith, e, c.small.ensures, value_below c.args.x f, mul-le-mul_left (value c.args.x) few)

pub returns-clause-same : goal.returns-clause-same
unfolding times
returns-clause-same c =
    let e = c.lower-low.ensures ∙ c.row_of-more.ensures in
    let h : value c.lower-low.result + 2 ^ 256 * c.row_of-more.result.high.w3 ≡ c.args.by * value c.args.x = omega (arith, e, c.small.ensures) in
    c.fold.ensures.same ∙ ap (λ z. z % field_prime) h
