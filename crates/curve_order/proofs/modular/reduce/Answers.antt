use Rattle.std.proofs.Common.{rules}
use Rattle.curve_field.specs.Value.{value, wide_value}
use Rattle.curve_field.proofs.Values.{WordsFit, value_below}
use Rattle.curve_order.proofs.Folds.{folds_below}
use Rattle.curve_order.proofs.modular.reduce.Goals as goal

pub finish-requires : goal.finish-requires
finish-requires c =
    let x = c.args.x in
    let a = c.fold-first.result in
    let b = c.fold-second.result in
    let f : WordsFit x.low = record { f0 = search rules; f1 = search rules; f2 = search rules; f3 = search rules } in
    let g : WordsFit x.high = record { f0 = search rules; f1 = search rules; f2 = search rules; f3 = search rules } in
    let h : WordsFit a.low = record { f0 = search rules; f1 = search rules; f2 = search rules; f3 = search rules } in
    let i : WordsFit b.low = record { f0 = search rules; f1 = search rules; f2 = search rules; f3 = search rules } in
    folds_below (value x.low) (value x.high) (value a.low) (value a.high) (value b.low) (value b.high) (wide_value c.fold-third.result)
    (value_below x.low f) (value_below x.high g) (value_below a.low h) (value_below b.low i)
    c.fold-first.ensures c.fold-second.ensures c.fold-third.ensures
