use Rattle.std.proofs.Common.{◌<◌, length, arith}
use Rattle.std.proofs.lemmas.Grind.{common_steps}
use Rattle.draw_page.specs.Scenes.{scene_of}
use Rattle.draw_page.proofs.WayLemmas.{any_is, conditions_are}
use Rattle.draw_page.proofs.conditions.put_conditions.Goals as goal

pub returns-then-is_empty : goal.returns-then-is_empty
returns-then-is_empty c =
    let e = any_is (scene_of c.args.scene.now) c.args.part in
    grind (arith, common_steps, e)

pub returns : goal.returns
returns c =
    let some : 0 < length c.args.conditions.now = grind (arith, common_steps) in
    let e = conditions_are (scene_of c.args.scene.now) c.args.part c.args.conditions.now some in
    grind (arith, common_steps, e)
