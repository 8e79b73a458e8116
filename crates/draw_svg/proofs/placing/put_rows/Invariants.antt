use Rattle.std.proofs.Common.{◌≡◌, ◌++◌, drop}
use Rattle.spec_page.specs.SvgLayout.{placed_rows}
use Rattle.draw_svg.specs.Endings.{widths_of}
use Rattle.draw_svg.specs.PlacedTexts.{rows_text}
use Rattle.draw_svg.proofs.placing.put_rows.Given as goal

abbrev pub invariant-loop-row : goal.invariant-loop-row
invariant-loop-row l =
    l.out.items ++ rows_text l.width (placed_rows (widths_of l.widths) l.line (drop l.row-index l.rows))
    ≡ l.initial.out.items ++ rows_text l.width (placed_rows (widths_of l.widths) 0 l.rows)
