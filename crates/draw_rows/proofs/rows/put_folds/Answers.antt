use Rattle.draw_rows.specs.Settings.{setup_in}
use Rattle.draw_rows.proofs.Stepping.{kept}
use Rattle.draw_rows.proofs.rows.put_folds.Goals as goal

pub loop-entry-preserved : goal.loop-entry-preserved
loop-entry-preserved c =
    kept (setup_in c.args.setting.now) c.args.entries.now c.loop-entry.entry-index c.entry-item.result c.args.begins c.loop-entry.fold
    c.in_ok-fold.fold c.args.rows.now c.loop-entry.rows c.go_on.new.rows c.loop-entry-test.true c.entry-item.is c.in_ok-fold.ensures.rows
    c.in_ok-fold.ensures.fold c.loop-entry.invariant
