use Rattle.std.proofs.Common.{◌≡◌, ◌++◌, drop, map}
use Rattle.spec_page.specs.Picture.{sheet}
use Rattle.draw_rows.proofs.picture.sheets_of.Given as goal

abbrev pub invariant-loop-checked : goal.invariant-loop-checked
invariant-loop-checked l =
    l.sheets ++ map sheet (drop l.checked-index l.contracts) ≡ map sheet l.contracts
