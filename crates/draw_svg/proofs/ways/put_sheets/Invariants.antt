use Rattle.std.proofs.Common.{◌≡◌, ◌++◌, drop}
use Rattle.spec_page.specs.SvgContract.{sheet_grids}
use Rattle.draw_svg.proofs.ways.put_sheets.Given as goal

abbrev pub invariant-loop-contract : goal.invariant-loop-contract
invariant-loop-contract l =
    l.rows ++ sheet_grids l.parties l.several l.looks l.contract l.part (drop l.contract l.sheets)
    ≡ l.initial.rows ++ sheet_grids l.parties l.several l.looks 0 0 l.sheets
