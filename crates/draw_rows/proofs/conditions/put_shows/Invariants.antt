use Rattle.std.proofs.Common.{◌≡◌, ◌++◌, drop, map}
use Rattle.spec_data.specs.Lists.{look_up}
use Rattle.spec_terms.specs.Precondition.{secrets}
use Rattle.spec_page.specs.declared.way_row.Condition.TheVariants.{Shows}
use Rattle.spec_page.specs.Ways.{owner_or_nobody}
use Rattle.draw_rows.proofs.conditions.put_shows.Given as goal

abbrev pub invariant-loop-name : goal.invariant-loop-name
invariant-loop-name l =
    l.conditions ++ map (λ x. Shows (owner_or_nobody (look_up x (secrets l.pre))) x) (drop l.name-index l.names)
    ≡ l.initial.conditions ++ map (λ x. Shows (owner_or_nobody (look_up x (secrets l.pre))) x) l.names
