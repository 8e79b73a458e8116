use Rattle.std.proofs.Common.{arith}
use Rattle.bm_rows.proofs.Laying.{start_before}
use Rattle.bm_rows.proofs.start_of.Goals as goal

pub returns-in-Some : goal.returns-in-Some
returns-in-Some c =
    let after = c.in-Some.ensures in
    let most = c.requires in
    start_before c.args.ends.now c.args.number c.in-Some.before (omega (arith, after)) (omega (arith, after, most))
