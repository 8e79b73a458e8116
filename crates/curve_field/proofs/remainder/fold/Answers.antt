use Rattle.std.proofs.Common.{◌≡◌, ◌+◌, ◌*◌, ◌^◌, ◌∙◌, ap, arith, rules}
use Rattle.spec_curve.specs.Field.{field_prime}
use Rattle.curve_field.specs.Value.{value}
use Rattle.curve_field.proofs.Values.{WordsFit, value_below}
use Rattle.curve_field.proofs.Folds.{fold_same}
use Rattle.curve_field.proofs.remainder.fold.Goals as goal

pub finish-requires : goal.finish-requires
finish-requires c =
    let e : value c.lower-less.result + 2 ^ 256 * c.row_of-more.result.high.w3 ≡ c.args.top * 4294968273 + value c.args.low =
    c.lower-less.ensures ∙ (c.row_of-more.ensures ∙ ap (λ z. z * 4294968273 + value c.args.low) c.small.ensures) in
    let f : WordsFit c.args.low = record { f0 = search rules; f1 = search rules; f2 = search rules; f3 = search rules } in
    omega (arith, e, value_below c.args.low f, c.requires)

pub returns-clause-same : goal.returns-clause-same
returns-clause-same c =
    let e : value c.lower-less.result + 2 ^ 256 * c.row_of-more.result.high.w3 ≡ c.args.top * 4294968273 + value c.args.low =
    c.lower-less.ensures ∙ (c.row_of-more.ensures ∙ ap (λ z. z * 4294968273 + value c.args.low) c.small.ensures) in
    c.finish.ensures.same ∙ fold_same field_prime 4294968273 (value c.args.low) c.args.top (value c.lower-less.result) c.row_of-more.result.high.w3 e
