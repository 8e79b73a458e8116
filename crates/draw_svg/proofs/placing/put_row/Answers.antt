use Rattle.std.proofs.Common.{arith}
use Rattle.std.proofs.lemmas.Grind.{common_steps}
use Rattle.spec_page.specs.SvgLayout.{row_lines, row_places}
use Rattle.draw_svg.specs.Endings.{widths_of}
use Rattle.draw_svg.proofs.PlaceLemmas.{row_is}
use Rattle.draw_svg.proofs.placing.put_row.Goals as goal

pub returns : goal.returns
returns c =
    let w = widths_of c.args.widths.now in
    let r = c.args.row.now in
    let e = row_is c.args.width r.look r.id c.args.line (row_lines r) (row_places w c.args.line r) in
    grind (arith, common_steps, e)
