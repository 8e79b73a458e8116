use Rattle.std.proofs.Common.{◌≡◌, ◌++◌, drop}
use Rattle.spec_page.specs.Outlooks.{words_from}
use Rattle.draw_rows.specs.Settings.{setup_in}
use Rattle.draw_rows.proofs.possible.possible.Given as goal

abbrev pub invariant-loop-checked : goal.invariant-loop-checked
invariant-loop-checked l =
    l.found.items ++ words_from (setup_in l.setting) l.view.moment.now l.contract (drop l.checked-index l.setting.contracts.now)
    ≡ words_from (setup_in l.setting) l.view.moment.now 0 l.setting.contracts.now
