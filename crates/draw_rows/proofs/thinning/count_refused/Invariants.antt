use Rattle.std.proofs.Common.{◌≡◌, ◌+◌, drop}
use Rattle.draw_rows.specs.Turns.{count_refused}
use Rattle.draw_rows.proofs.thinning.count_refused.Given as goal

abbrev pub invariant-loop-row : goal.invariant-loop-row
invariant-loop-row l =
    l.count + count_refused (drop l.row-index l.rows) ≡ count_refused l.rows
