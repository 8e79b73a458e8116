use Rattle.std.proofs.Common.{arith}
use Rattle.std.specs.Prelude.{codes}
use Rattle.std.proofs.lemmas.Grind.{common_steps}
use Rattle.spec_tool.specs.declared.which.Which.TheVariants.{Init}
use Rattle.spec_page.specs.Html.{said}
use Rattle.spec_page.specs.ContractPart.{stake_cell}
use Rattle.draw_page.specs.Scenes.{scene_of}
use Rattle.draw_page.proofs.WayLemmas.{way_is}
use Rattle.draw_page.proofs.ways.put_initial.Goals as goal

pub returns : goal.returns
returns c =
    let s = scene_of c.args.scene.now in
    let f = way_is s c.args.part Init 0 (said (codes "all sign; each puts in")) (stake_cell s c.args.part c.args.stakes.now) in
    grind (arith, common_steps, f)
