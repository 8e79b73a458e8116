use Rattle.std.proofs.Common.{arith}
use Rattle.std.proofs.lemmas.Grind.{common_steps}
use Rattle.draw_page.proofs.PageLemmas.{body_elements_are}
use Rattle.draw_page.proofs.bodies.table_bodies.Goals as goal

pub returns : goal.returns
returns c =
    let e =
    body_elements_are c.args.parties.now c.args.elsewhere c.args.several c.args.rows.now c.args.sheets.now c.args.count c.args.money.now
    in
    grind (arith, common_steps, e)
