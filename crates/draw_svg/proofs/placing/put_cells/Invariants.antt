use Rattle.std.proofs.Common.{◌≡◌, ◌++◌, length}
use Rattle.spec_page.specs.SvgLayout.{cells_places}
use Rattle.draw_svg.specs.PlacedTexts.{places_text}
use Rattle.draw_svg.proofs.placing.put_cells.Given as goal

abbrev pub invariant-loop-cell : goal.invariant-loop-cell
invariant-loop-cell l =
    l.out.items ++ places_text (cells_places l.line l.place l.left l.right)
    ≡ l.initial.out.items ++ places_text (cells_places l.line l.at l.widths l.cells)

abbrev pub decreases-loop-cell : goal.decreases-loop-cell
decreases-loop-cell l = length l.right
