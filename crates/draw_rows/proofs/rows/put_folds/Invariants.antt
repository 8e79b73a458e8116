use Rattle.std.proofs.Common.{◌≡◌, ◌++◌, drop, map}
use Rattle.draw_rows.specs.Settings.{setup_in}
use Rattle.draw_rows.specs.Turns.{fold_row, folds_from, after_entries}
use Rattle.draw_rows.proofs.rows.put_folds.Given as goal

abbrev pub invariant-loop-entry : goal.invariant-loop-entry
invariant-loop-entry l =
    (l.rows ++ map (fold_row (setup_in l.setting)) (folds_from l.fold (drop l.entry-index l.entries))
    ≡ l.initial.rows ++ map (fold_row (setup_in l.setting)) (folds_from l.initial.fold l.entries))
    × (after_entries l.fold.moment (drop l.entry-index l.entries) ≡ after_entries l.initial.fold.moment l.entries)
