use Rattle.std.proofs.Common.{◌<◌, ◌^◌, arith, rules}
use Rattle.curve_field.specs.Value.{value}
use Rattle.curve_field.proofs.Values.{WordsFit, value_below}
use Rattle.curve_field.proofs.compare.is_equal.Goals as goal

pub returns : goal.returns
returns c =
    let d = c.difference-borrow in
    let f : WordsFit d.result.0 = record { f0 = search rules; f1 = search rules; f2 = search rules; f3 = search rules } in
    let g : WordsFit c.args.x = record { f0 = search rules; f1 = search rules; f2 = search rules; f3 = search rules } in
    let h : WordsFit c.args.y = record { f0 = search rules; f1 = search rules; f2 = search rules; f3 = search rules } in
    let rest : value d.result.0 < 2 ^ 256 = value_below d.result.0 f in
    let first : value c.args.x < 2 ^ 256 = value_below c.args.x g in
    let second : value c.args.y < 2 ^ 256 = value_below c.args.y h in (
      λ t. omega (arith, d.ensures.value, c.is_zero.ensures.0 t, rest, first, second),
      λ e. c.is_zero.ensures.1 (omega (arith, d.ensures.value, e, rest, first, second)),
    )
