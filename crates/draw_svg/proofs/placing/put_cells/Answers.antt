use Rattle.std.proofs.Common.{arith}
use Rattle.std.proofs.lemmas.Grind.{common_steps}
use Rattle.draw_svg.proofs.PlaceLemmas.{cells_end}
use Rattle.draw_svg.proofs.placing.put_cells.Goals as goal

pub returns : goal.returns
returns c =
    let e = cells_end c.args.line c.loop-cell.place c.loop-cell.left.now in
    grind (arith, common_steps, e)
