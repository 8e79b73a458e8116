use Rattle.curve_field.specs.Value.{value}
use Rattle.curve_field.proofs.Values.{four_steps}
use Rattle.curve_field.proofs.words.row_of.Goals as goal

pub returns : goal.returns
unfolding value
returns c =
    let x = c.args.x in
    let a = c.args.add in
    let s0 = c.step-r0 in
    let s1 = c.step-r1 in
    let s2 = c.step-r2 in
    let s3 = c.step-r3 in
    four_steps c.args.y x.w0 x.w1 x.w2 x.w3 a.w0 a.w1 a.w2 a.w3
    s0.result.0 s1.result.0 s2.result.0 s3.result.0 s0.result.1 s1.result.1 s2.result.1 s3.result.1
    s0.ensures s1.ensures s2.ensures s3.ensures
