use Rattle.std.proofs.Common.{◌≡◌, ◌++◌, drop}
use Rattle.spec_page.specs.SvgContract.{stake_items}
use Rattle.draw_svg.specs.Endings.{ending_of}
use Rattle.draw_svg.proofs.sums.put_stakes.Given as goal

abbrev pub invariant-loop-stake : goal.invariant-loop-stake
invariant-loop-stake l =
    l.items ++ stake_items (ending_of l.ending) l.party l.part (drop l.stake-index l.stakes)
    ≡ l.initial.items ++ stake_items (ending_of l.ending) l.party l.part l.stakes
