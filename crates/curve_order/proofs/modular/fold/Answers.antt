use Rattle.std.proofs.Common.{◌<◌, ◌^◌, ◌∙◌, ap, rules}
use Rattle.std.proofs.Common.{◌*◌, ◌+◌}
use Rattle.curve_field.specs.Value.{value}
use Rattle.curve_field.proofs.Values.{WordsFit, value_below}
use Rattle.curve_order.proofs.Folds.{fold_is}
use Rattle.curve_order.proofs.modular.fold.Goals as goal

pub returns : goal.returns
returns c =
    let x = c.args.x in
    let f = c.product-folded.result in
    let sum = c.row_of-sum.result in
    let top = c.row_of-top.result in
    let low : WordsFit x.low = record { f0 = search rules; f1 = search rules; f2 = search rules; f3 = search rules } in
    let high : WordsFit x.high = record { f0 = search rules; f1 = search rules; f2 = search rules; f3 = search rules } in
    let carry : sum.high.w3 < 2 ^ 64 = search rules in
    fold_is (value x.low) (value x.high) (value f.low) (value f.high) (value c.lower.result) sum.high.w3 (value c.lower-2.result) top.high.w3
    (value_below x.low low) (value_below x.high high) carry
    (c.product-folded.ensures ∙ ap (λ z. value x.high * z) c.more.ensures)
    (c.lower.ensures ∙ c.row_of-sum.ensures)
    (c.lower-2.ensures ∙ (c.row_of-top.ensures ∙ ap (λ z. value f.high * 1 + z) c.small.ensures))
