use Rattle.std.proofs.Common.{◌≡◌, ◌++◌, drop}
use Rattle.draw_rows.specs.Looked.{all_looks}
use Rattle.draw_rows.proofs.looks.all_looks.Given as goal

abbrev pub invariant-loop-checked : goal.invariant-loop-checked
invariant-loop-checked l =
    l.looks ++ all_looks l.moment l.number (drop l.checked-index l.contracts) ≡ all_looks l.moment 0 l.contracts
