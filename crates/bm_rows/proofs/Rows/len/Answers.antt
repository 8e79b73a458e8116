use Rattle.std.proofs.Common.{arith}
use Rattle.bm_rows.proofs.Laying.{as_many}
use Rattle.bm_rows.proofs.Rows.len.Goals as goal

pub returns : goal.returns
returns g c =
    let many = as_many c.self.inside.cells.items c.self.inside.ends.items c.args.self.now c.self.view_is in
    let counted = c.len.ensures in
    omega (arith, many, counted)
