use Rattle.std.proofs.Common.{arith}
use Rattle.bm_hash.proofs.Piecing.{as_many}
use Rattle.bm_hash.proofs.pieces.Pieces.len.Goals as goal

pub returns : goal.returns
returns c =
    let many = as_many c.self.inside.bytes.items c.self.inside.ends.items c.args.self.now c.self.view_is in
    let counted = c.len.ensures in
    omega (arith, many, counted)
