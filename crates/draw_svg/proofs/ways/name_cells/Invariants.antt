use Rattle.std.proofs.Common.{◌≡◌, ◌++◌, drop}
use Rattle.spec_page.specs.SvgContract.{name_cells}
use Rattle.draw_svg.proofs.ways.name_cells.Given as goal

abbrev pub invariant-loop-column : goal.invariant-loop-column
invariant-loop-column l = l.cells ++ name_cells l.column (drop l.column l.parties) ≡ name_cells 0 l.parties
