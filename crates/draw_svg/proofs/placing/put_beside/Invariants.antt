use Rattle.std.proofs.Common.{◌≡◌, ◌++◌, drop}
use Rattle.spec_page.specs.SvgLayout.{beside}
use Rattle.draw_svg.specs.PlacedTexts.{places_text}
use Rattle.draw_svg.proofs.placing.put_beside.Given as goal

abbrev pub invariant-loop-item : goal.invariant-loop-item
invariant-loop-item l =
    l.out.items ++ places_text (beside l.line l.place (drop l.item-index l.items))
    ≡ l.initial.out.items ++ places_text (beside l.line l.at l.items)
