use Rattle.std.proofs.Common.{◌≡◌, ◌+◌, ◌*◌, ◌∙◌, ap, arith}
use Rattle.curve_field.specs.Value.{value, row_value}
use Rattle.curve_field.proofs.Values.{value_is, four_rows}
use Rattle.curve_field.proofs.words.product.Goals as goal

pub returns : goal.returns
returns c =
    let x = value c.args.x in
    let y = c.args.y in
    let a = c.row_of-a in
    let b = c.row_of-b in
    let d = c.row_of-c in
    let e = c.row_of-d in
    let first : row_value a.result ≡ x * y.w0 + 0 = a.ensures ∙ ap (λ z. x * y.w0 + z) c.small.ensures in
    let all = four_rows x y.w0 y.w1 y.w2 y.w3 a.result.low b.result.low d.result.low e.result.low
    (value a.result.high) (value b.result.high) (value d.result.high) (value e.result.high)
    first b.ensures d.ensures e.ensures in
    omega (arith, all, ap (λ z. x * z) (value_is y), value_is (record { w0 = a.result.low; w1 = b.result.low; w2 = d.result.low; w3 = e.result.low }))
