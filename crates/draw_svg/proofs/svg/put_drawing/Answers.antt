use Rattle.std.proofs.Common.{arith}
use Rattle.std.proofs.lemmas.Grind.{common_steps}
use Rattle.spec_page.specs.SvgLayout.{drawing_with}
use Rattle.draw_svg.specs.Endings.{widths_of}
use Rattle.draw_svg.proofs.DocumentLemmas.{drawing_is}
use Rattle.draw_svg.proofs.svg.put_drawing.Goals as goal

pub returns : goal.returns
returns c =
    let e = drawing_is c.args.title.now (drawing_with (widths_of c.args.widths.now) c.args.rows.now c.args.items.now) in
    grind (arith, common_steps, e)
