use Rattle.std.proofs.Common.{◌≡◌, ◌+◌, ◌++◌, drop}
use Rattle.spec_page.specs.SvgContract.{chip_items}
use Rattle.draw_svg.specs.Endings.{ending_of}
use Rattle.draw_svg.proofs.conditions.put_chips.Given as goal

abbrev pub invariant-loop-index : goal.invariant-loop-index
invariant-loop-index l =
    l.items ++ chip_items (ending_of l.ending) (l.part + l.index) (drop l.index l.conditions)
    ≡ l.initial.items ++ chip_items (ending_of l.ending) l.part l.conditions
