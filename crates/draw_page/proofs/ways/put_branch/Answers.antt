use Rattle.std.proofs.Common.{arith, ◌+◌, length}
use Rattle.std.proofs.lemmas.Grind.{common_steps}
use Rattle.spec_tool.specs.declared.which.Which.TheVariants.{At}
use Rattle.spec_page.specs.ContractPart.{with_part, conditions_content, payment_cell}
use Rattle.draw_page.specs.Scenes.{scene_of}
use Rattle.draw_page.proofs.WayLemmas.{with_part_is, way_is}
use Rattle.draw_page.proofs.ways.put_branch.Goals as goal

pub returns : goal.returns
returns c =
    let s = scene_of c.args.scene.now in
    let inside = conditions_content s (c.args.part + 1) c.args.conditions.now in
    let e = with_part_is c.args.share inside in
    let f = way_is s c.args.part (At c.args.path.now) c.args.depth (with_part c.args.share inside)
    (payment_cell s (c.args.part + 1 + length c.args.conditions.now) c.args.payments.now) in
    grind (arith, common_steps, e, f)
