use Rattle.std.proofs.Common.{◌≡◌, ◌++◌, drop, map}
use Rattle.spec_page.specs.SvgItems.{cell}
use Rattle.spec_page.specs.SvgContract.{payment_items, payment_cells}
use Rattle.draw_svg.specs.Endings.{ending_of}
use Rattle.draw_svg.proofs.sums.payment_cells.Given as goal

abbrev pub invariant-loop-party : goal.invariant-loop-party
invariant-loop-party l =
    l.cells ++ map (λ party. cell (payment_items (ending_of l.ending) party l.part l.payments)) (drop l.party-index l.ending.parties.now)
    ≡ payment_cells (ending_of l.ending) l.part l.payments
