use Rattle.std.proofs.Common.{◌≡◌, ◌++◌, drop, map}
use Rattle.spec_data.specs.Lists.{look_up}
use Rattle.spec_terms.specs.Precondition.{volatile}
use Rattle.spec_page.specs.Ways.{puts_condition}
use Rattle.draw_rows.proofs.conditions.put_puts.Given as goal

abbrev pub invariant-loop-name : goal.invariant-loop-name
invariant-loop-name l =
    l.conditions ++ map (λ x. puts_condition x (look_up x (volatile l.pre))) (drop l.name-index l.names)
    ≡ l.initial.conditions ++ map (λ x. puts_condition x (look_up x (volatile l.pre))) l.names
