use Rattle.std.proofs.Common.{◌≡◌, drop}
use Rattle.std.specs.Prelude.{max}
use Rattle.spec_page.specs.SvgLayout.{reach, flowing, spot}
use Rattle.draw_svg.specs.Endings.{spot_of}
use Rattle.draw_svg.proofs.flow.reach.Given as goal

abbrev pub invariant-loop-item : goal.invariant-loop-item
invariant-loop-item l =
    max l.most (reach (flowing l.begin l.limit (spot_of l.spot) (drop l.item-index l.items)))
    ≡ reach (flowing l.begin l.limit (spot 0 l.begin) l.items)
