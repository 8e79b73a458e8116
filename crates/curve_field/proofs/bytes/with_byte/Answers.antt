use Rattle.std.proofs.Common.{◌<◌, ◌^◌, ◌∙◌, arith, rules}
use Rattle.curve_field.proofs.Values.{WordsFit, value_below}
use Rattle.curve_field.proofs.bytes.with_byte.Goals as goal

pub returns : goal.returns
returns c =
    let r = c.lower.result in
    let f : WordsFit r = record { f0 = search rules; f1 = search rules; f2 = search rules; f3 = search rules } in
    let byte : c.args.byte < 2 ^ 8 = search rules in
    omega (arith, c.lower.ensures ∙ c.row_of.ensures, c.small.ensures, value_below r f, c.requires, byte)
