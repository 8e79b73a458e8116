use Rattle.std.proofs.Common.{◌≡◌, ◌++◌, drop, map}
use Rattle.spec_page.specs.Folds.{turn_line}
use Rattle.draw_rows.specs.Turns.{turn_of}
use Rattle.draw_rows.proofs.fold_words.put_lines.Given as goal

abbrev pub invariant-loop-entry : goal.invariant-loop-entry
invariant-loop-entry l =
    l.lines.items ++ map turn_line (map turn_of (drop l.entry-index l.entries)) ≡ l.initial.lines.items ++ map turn_line (map turn_of l.entries)
