use Rattle.std.proofs.Common.{◌≡◌, ◌+◌, ◌*◌, ◌^◌, ◌%◌, ◌∙◌, ap, arith}
use Rattle.spec_curve.specs.Field.{field_prime, plus}
use Rattle.curve_field.specs.Value.{value}
use Rattle.curve_field.proofs.ring.add.Goals as goal

pub finish-requires : goal.finish-requires
finish-requires c = omega (arith, c.lower-low.ensures ∙ c.row_of-sum.ensures, c.requires.first, c.requires.second)

pub returns-clause-same : goal.returns-clause-same
unfolding plus
returns-clause-same c =
    let e : value c.lower-low.result + 2 ^ 256 * c.row_of-sum.result.high.w3 ≡ value c.args.x + value c.args.y = omega (arith, c.lower-low.ensures ∙ c.row_of-sum.ensures) in
    c.finish.ensures.same ∙ ap (λ z. z % field_prime) e
