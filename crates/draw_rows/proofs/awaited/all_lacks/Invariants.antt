use Rattle.std.proofs.Common.{◌≡◌, ◌++◌, drop}
use Rattle.spec_page.specs.Outlooks.{lacks_from}
use Rattle.draw_rows.specs.Settings.{setup_in}
use Rattle.draw_rows.proofs.awaited.all_lacks.Given as goal

abbrev pub invariant-loop-checked : goal.invariant-loop-checked
invariant-loop-checked l =
    l.lacks ++ lacks_from (setup_in l.setting) l.moment l.contract (drop l.checked-index l.setting.contracts.now)
    ≡ lacks_from (setup_in l.setting) l.moment 0 l.setting.contracts.now
