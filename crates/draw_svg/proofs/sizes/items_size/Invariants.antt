use Rattle.std.proofs.Common.{◌≡◌, ◌+◌, drop}
use Rattle.spec_page.specs.SvgItems.{items_size}
use Rattle.draw_svg.proofs.sizes.items_size.Given as goal

abbrev pub invariant-loop-item : goal.invariant-loop-item
invariant-loop-item l = l.count + items_size (drop l.item-index l.items) ≡ items_size l.items
