use Rattle.std.proofs.Common.{◌≡◌, ◌++◌, drop}
use Rattle.spec_page.specs.Statuses.{condition_statuses}
use Rattle.draw_rows.proofs.looks.put_conditions.Given as goal

abbrev pub invariant-loop-condition : goal.invariant-loop-condition
invariant-loop-condition l =
    l.looks ++ condition_statuses l.moment l.advert l.taking (drop l.condition-index l.conditions)
    ≡ l.initial.looks ++ condition_statuses l.moment l.advert l.taking l.conditions
