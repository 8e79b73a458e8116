use Rattle.std.proofs.Common.{◌≡◌, ◌++◌, drop, map}
use Rattle.spec_page.specs.SvgLayout.{moved, flowing, spot}
use Rattle.draw_svg.specs.Endings.{spot_of}
use Rattle.draw_svg.specs.PlacedTexts.{places_text}
use Rattle.draw_svg.proofs.placing.put_flow.Given as goal

abbrev pub invariant-loop-item : goal.invariant-loop-item
invariant-loop-item l =
    l.out.items ++ places_text (map (moved l.line l.at) (flowing l.begin l.limit (spot_of l.spot) (drop l.item-index l.items)))
    ≡ l.initial.out.items ++ places_text (map (moved l.line l.at) (flowing l.begin l.limit (spot 0 l.begin) l.items))
