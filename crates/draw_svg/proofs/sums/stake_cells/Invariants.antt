use Rattle.std.proofs.Common.{◌≡◌, ◌++◌, drop, map}
use Rattle.spec_page.specs.SvgItems.{cell}
use Rattle.spec_page.specs.SvgContract.{stake_items, stake_cells}
use Rattle.draw_svg.specs.Endings.{ending_of}
use Rattle.draw_svg.proofs.sums.stake_cells.Given as goal

abbrev pub invariant-loop-party : goal.invariant-loop-party
invariant-loop-party l =
    l.cells ++ map (λ party. cell (stake_items (ending_of l.ending) party l.part l.stakes)) (drop l.party-index l.ending.parties.now)
    ≡ stake_cells (ending_of l.ending) l.part l.stakes
