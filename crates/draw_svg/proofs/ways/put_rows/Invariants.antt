use Rattle.std.proofs.Common.{◌≡◌, ◌++◌, drop}
use Rattle.spec_page.specs.SvgContract.{row_grids}
use Rattle.draw_svg.specs.Endings.{ending_of}
use Rattle.draw_svg.proofs.ways.put_rows.Given as goal

abbrev pub invariant-loop-way : goal.invariant-loop-way
invariant-loop-way l =
    l.rows ++ row_grids (ending_of l.ending) l.number (drop l.way-index l.ways)
    ≡ l.initial.rows ++ row_grids (ending_of l.ending) l.part l.ways
