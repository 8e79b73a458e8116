use Rattle.std.proofs.Common.{◌≡◌, drop}
use Rattle.spec_page.specs.SvgLayout.{last_line, flowing, spot}
use Rattle.draw_svg.specs.Endings.{spot_of}
use Rattle.draw_svg.proofs.flow.last_line.Given as goal

abbrev pub invariant-loop-item : goal.invariant-loop-item
invariant-loop-item l =
    last_line l.spot.line (flowing l.begin l.limit (spot_of l.spot) (drop l.item-index l.items))
    ≡ last_line 0 (flowing l.begin l.limit (spot 0 l.begin) l.items)
