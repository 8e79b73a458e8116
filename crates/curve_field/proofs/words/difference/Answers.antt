use Rattle.curve_field.specs.Value.{value}
use Rattle.curve_field.proofs.Values.{four_takes}
use Rattle.curve_field.proofs.words.difference.Goals as goal

pub returns-clause-value : goal.returns-clause-value
unfolding value
returns-clause-value c =
    let x = c.args.x in
    let y = c.args.y in
    let s0 = c.take_step-d0 in
    let s1 = c.take_step-d1 in
    let s2 = c.take_step-d2 in
    let s3 = c.take_step-d3 in
    four_takes x.w0 x.w1 x.w2 x.w3 y.w0 y.w1 y.w2 y.w3
    s0.result.0 s1.result.0 s2.result.0 s3.result.0 s0.result.1 s1.result.1 s2.result.1 s3.result.1
    s0.ensures.value s1.ensures.value s2.ensures.value s3.ensures.value
