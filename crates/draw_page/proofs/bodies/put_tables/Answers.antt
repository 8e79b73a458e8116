use Rattle.std.proofs.Common.{arith}
use Rattle.std.proofs.lemmas.Grind.{common_steps}
use Rattle.draw_page.proofs.PageLemmas.{table_part_is}
use Rattle.draw_page.proofs.bodies.put_tables.Goals as goal

pub returns : goal.returns
returns c =
    let e = table_part_is c.args.picture.now c.args.money.now in
    grind (arith, common_steps, e)
