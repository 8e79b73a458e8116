use Rattle.std.proofs.Common.{◌≡◌, ◌++◌}
use Rattle.draw_rows.specs.Turns.{thinned}
use Rattle.draw_rows.proofs.thinning.thinned.Given as goal

abbrev pub invariant-loop-row : goal.invariant-loop-row
invariant-loop-row l =
    l.kept ++ thinned l.refusals l.room l.row-iterator.rest.items ≡ thinned l.refused l.others l.initial.row-iterator.rest.items
