use Rattle.std.proofs.Common.{◌≡◌, ◌++◌, drop}
use Rattle.std.specs.Prelude.{flat_map}
use Rattle.spec_page.specs.Outlooks.{active_words}
use Rattle.draw_rows.proofs.going.put_actives.Given as goal

abbrev pub invariant-loop-active : goal.invariant-loop-active
invariant-loop-active l =
    l.found.items ++ flat_map (active_words l.several l.view.moment.now l.people) (drop l.active-index l.actives)
    ≡ l.initial.found.items ++ flat_map (active_words l.several l.view.moment.now l.people) l.actives
