use Rattle.std.proofs.Common.{arith}
use Rattle.std.proofs.lemmas.Grind.{common_steps}
use Rattle.spec_page.specs.RunPart.{run_elements}
use Rattle.draw_page.specs.Scenes.{columns_of}
use Rattle.draw_page.proofs.PageLemmas.{body_is}
use Rattle.draw_page.proofs.bodies.put_run_body.Goals as goal

pub returns : goal.returns
returns c =
    let e = body_is (run_elements (columns_of c.args.columns.now) c.args.count c.args.rows.now c.args.money.now) in
    grind (arith, common_steps, e)
