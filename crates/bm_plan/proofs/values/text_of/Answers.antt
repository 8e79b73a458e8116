use Rattle.std.proofs.Common.{arith}
use Rattle.bm_plan.proofs.Json.Values.{text_is}
use Rattle.bm_plan.proofs.values.text_of.Goals as goal

pub returns : goal.returns
returns c t h =
    let k = text_is _ t h in
    let e = c.into_bytes.ensures.value in
    let f = c.in_ok-to_string.ensures.text k.0 in
    let g = k.1 in
    grind (arith, e, f, g)
