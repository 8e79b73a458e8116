use Rattle.std.proofs.Common.{◌+◌, [], map, arith}
use Rattle.std.specs.Prelude.{codes}
use Rattle.std.proofs.lemmas.Grind.{common_steps}
use Rattle.spec_page.specs.SvgLayout.{last_line, moved, outlook_places}
use Rattle.draw_svg.proofs.PlaceLemmas.{row_is}
use Rattle.draw_svg.proofs.placing.put_outlook.Goals as goal

pub returns : goal.returns
returns c =
    let places = outlook_places c.args.table c.args.items.now in
    let e = row_is c.args.width (codes "now") [] c.args.line (last_line 0 places + 1) (map (moved c.args.line 0) places) in
    grind (arith, common_steps, e)
