use Rattle.std.proofs.Common.{◌≡◌, ◌+◌, drop}
use Rattle.draw_rows.specs.Turns.{held_in}
use Rattle.draw_rows.proofs.thinning.held_in.Given as goal

abbrev pub invariant-loop-row : goal.invariant-loop-row
invariant-loop-row l =
    l.count + held_in (drop l.row-index l.rows) ≡ held_in l.rows
