use Rattle.std.proofs.Common.{◌<◌, length, arith, sym}
use Rattle.std.proofs.lemmas.Grind.{common_steps}
use Rattle.draw_page.proofs.Onto.{put_same}
use Rattle.draw_page.proofs.CellLemmas.{full_cell}
use Rattle.draw_page.proofs.cells.put_party_cell.Goals as goal

pub returns : goal.returns
returns c =
    let some : 0 < length c.args.inside.now = grind (arith, common_steps) in
    let e = full_cell c.args.column c.args.party.now c.args.inside.now some in
    put_same c.put_all-2.result _ _ _ _ (sym e) (rw c.column_look.ensures at c.put_all-2.ensures)
