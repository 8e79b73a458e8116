use Rattle.std.proofs.Common.{arith, rules}
use Rattle.curve_field.proofs.Values.{WordsFit, value_below}
use Rattle.curve_order.proofs.modular.remainder.Goals as goal

pub finish-requires : goal.finish-requires
finish-requires c =
    let f : WordsFit c.args.x = record { f0 = search rules; f1 = search rules; f2 = search rules; f3 = search rules } in
    omega (arith, c.small.ensures, value_below c.args.x f)
