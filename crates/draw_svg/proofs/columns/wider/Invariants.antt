use Rattle.std.proofs.Common.{◌≡◌, ◌++◌, drop}
use Rattle.spec_page.specs.SvgLayout.{wider}
use Rattle.draw_svg.proofs.columns.wider.Given as goal

abbrev pub invariant-loop-cell : goal.invariant-loop-cell
invariant-loop-cell l = l.all ++ wider l.left (drop l.cell-index l.cells) ≡ wider l.widths l.cells
