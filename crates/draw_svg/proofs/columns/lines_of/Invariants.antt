use Rattle.std.proofs.Common.{◌≡◌, drop}
use Rattle.spec_page.specs.SvgLayout.{lines_behind}
use Rattle.draw_svg.proofs.columns.lines_of.Given as goal

abbrev pub invariant-loop-row : goal.invariant-loop-row
invariant-loop-row l = lines_behind l.lines (drop l.row-index l.rows) ≡ lines_behind 0 l.rows
