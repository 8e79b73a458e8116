use Rattle.std.proofs.Common.{◌≡◌, ◌++◌, drop}
use Rattle.std.specs.Prelude.{None}
use Rattle.std.specs.Option.{option_copied}
use Rattle.spec_page.specs.RunPart.{event_elements}
use Rattle.draw_page.specs.Scenes.{columns_of}
use Rattle.draw_page.specs.Texts.{lines_text}
use Rattle.draw_page.proofs.run_rows.put_events.Given as goal

abbrev pub invariant-loop-row : goal.invariant-loop-row
invariant-loop-row l =
    l.out.items ++ lines_text (event_elements (columns_of l.columns) l.count (option_copied l.before) (drop l.row-index l.rows))
    ≡ l.initial.out.items ++ lines_text (event_elements (columns_of l.columns) l.count None l.rows)
