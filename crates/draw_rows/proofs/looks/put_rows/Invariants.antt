use Rattle.std.proofs.Common.{◌≡◌, ◌++◌, drop}
use Rattle.std.specs.Prelude.{flat_map}
use Rattle.spec_page.specs.Statuses.{row_looks}
use Rattle.draw_rows.proofs.looks.put_rows.Given as goal

abbrev pub invariant-loop-row : goal.invariant-loop-row
invariant-loop-row l =
    l.looks ++ flat_map (row_looks l.moment l.contract l.advert) (drop l.row-index l.rows)
    ≡ l.initial.looks ++ flat_map (row_looks l.moment l.contract l.advert) l.rows
