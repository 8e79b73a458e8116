use Rattle.std.proofs.Common.{◌≡◌, drop}
use Rattle.spec_page.specs.SvgLayout.{with_rows, widths}
use Rattle.draw_svg.specs.Endings.{widths_of}
use Rattle.draw_svg.proofs.columns.widths_for.Given as goal

abbrev pub invariant-loop-row : goal.invariant-loop-row
invariant-loop-row l = with_rows (widths_of l.widths) (drop l.row-index l.rows) ≡ widths l.rows
