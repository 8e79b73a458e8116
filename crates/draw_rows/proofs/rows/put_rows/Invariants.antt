use Rattle.std.proofs.Common.{◌≡◌, ◌++◌}
use Rattle.draw_rows.proofs.rows.put_rows.Given as goal

abbrev pub invariant-loop-row : goal.invariant-loop-row
invariant-loop-row l =
    l.rows ++ l.row-iterator.rest.items ≡ l.initial.rows ++ l.initial.row-iterator.rest.items
