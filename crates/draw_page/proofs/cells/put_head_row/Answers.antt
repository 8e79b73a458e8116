use Rattle.std.proofs.Common.{arith}
use Rattle.std.proofs.lemmas.Grind.{common_steps}
use Rattle.draw_page.specs.Scenes.{columns_of}
use Rattle.draw_page.proofs.CellLemmas.{head_row_is}
use Rattle.draw_page.proofs.cells.put_head_row.Goals as goal

pub returns : goal.returns
returns c =
    let e = head_row_is (columns_of c.args.columns.now) c.args.what.now c.args.contract.now c.args.elsewhere.now c.args.fees.now in
    grind (arith, common_steps, e)
