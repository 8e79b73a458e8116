use Rattle.std.proofs.Common.{◌∙◌, arith, rules}
use Rattle.spec_curve.specs.Field.{field_prime}
use Rattle.curve_field.specs.Value.{value}
use Rattle.curve_field.proofs.Values.{WordsFit, value_below}
use Rattle.curve_field.proofs.Folds.{fold_same}
use Rattle.curve_field.proofs.remainder.reduce.Goals as goal

pub fold-requires : goal.fold-requires
fold-requires c =
    let x = c.args.x in
    let e = c.lower-less.ensures ∙ c.row_of-more.ensures in
    let f : WordsFit x.low = record { f0 = search rules; f1 = search rules; f2 = search rules; f3 = search rules } in
    let g : WordsFit x.high = record { f0 = search rules; f1 = search rules; f2 = search rules; f3 = search rules } in
    omega (arith, e, value_below x.low f, value_below x.high g)

pub returns-clause-same : goal.returns-clause-same
returns-clause-same c =
    let e = c.lower-less.ensures ∙ c.row_of-more.ensures in
    c.fold.ensures.same
    ∙ fold_same field_prime 4294968273 (value c.args.x.low) (value c.args.x.high) (value c.lower-less.result) c.row_of-more.result.high.w3 e
