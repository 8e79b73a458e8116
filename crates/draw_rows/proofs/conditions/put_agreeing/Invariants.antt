use Rattle.std.proofs.Common.{◌≡◌, ◌++◌, drop, map}
use Rattle.spec_page.specs.declared.way_row.Condition.TheVariants.{Agrees}
use Rattle.draw_rows.proofs.conditions.put_agreeing.Given as goal

abbrev pub invariant-loop-name : goal.invariant-loop-name
invariant-loop-name l =
    l.conditions ++ map Agrees (drop l.name-index l.names) ≡ l.initial.conditions ++ map Agrees l.names
