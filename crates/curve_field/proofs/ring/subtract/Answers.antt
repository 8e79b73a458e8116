use Rattle.std.proofs.Common.{◌≡◌, ◌+◌, ◌-◌, ◌*◌, ◌^◌, ◌%◌, ◌∙◌, ap, arith, rules}
use Rattle.spec_curve.specs.Field.{field_prime, minus}
use Rattle.curve_field.specs.Value.{value}
use Rattle.curve_field.proofs.Values.{WordsFit, value_below}
use Rattle.curve_field.proofs.ring.subtract.Goals as goal

pub finish-requires : goal.finish-requires
finish-requires c =
    let d = c.difference-borrow in
    let f : WordsFit d.result.0 = record { f0 = search rules; f1 = search rules; f2 = search rules; f3 = search rules } in
    let e = c.lower-low.ensures ∙ c.row_of-sum.ensures in
    let g : value d.result.0 ≡ field_prime - value c.args.y = omega (arith, d.ensures.value, c.prime.ensures, value_below d.result.0 f, c.requires.second) in
    omega (arith, e, g, c.requires.first, c.requires.second)

pub returns-clause-same : goal.returns-clause-same
unfolding minus
returns-clause-same c =
    let d = c.difference-borrow in
    let f : WordsFit d.result.0 = record { f0 = search rules; f1 = search rules; f2 = search rules; f3 = search rules } in
    let e = c.lower-low.ensures ∙ c.row_of-sum.ensures in
    let g : value d.result.0 ≡ field_prime - value c.args.y = omega (arith, d.ensures.value, c.prime.ensures, value_below d.result.0 f, c.requires.second) in
    let h : value c.lower-low.result + 2 ^ 256 * c.row_of-sum.result.high.w3 ≡ value c.args.x + (field_prime - value c.args.y) = omega (arith, e, g) in
    c.finish.ensures.same ∙ ap (λ z. z % field_prime) h
