use Rattle.std.proofs.Common.{arith}
use Rattle.std.proofs.lemmas.Grind.{common_steps}
use Rattle.draw_page.specs.Scenes.{scene_of}
use Rattle.draw_page.proofs.WayLemmas.{payment_cell_is}
use Rattle.draw_page.proofs.sums.put_payment_cell.Goals as goal

pub returns : goal.returns
returns c =
    let e = payment_cell_is (scene_of c.args.scene.now) c.args.part c.args.payments.now c.args.column c.args.party.now in
    grind (arith, common_steps, e)
