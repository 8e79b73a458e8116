use Rattle.std.proofs.Common.{◌≡◌, ◌++◌, drop}
use Rattle.std.specs.Prelude.{flat_map}
use Rattle.spec_page.specs.Outlooks.{active_lacks}
use Rattle.draw_rows.proofs.awaited.put_actives_lack.Given as goal

abbrev pub invariant-loop-active : goal.invariant-loop-active
invariant-loop-active l =
    l.lacks ++ flat_map (active_lacks l.honest l.config) (drop l.active-index l.actives)
    ≡ l.initial.lacks ++ flat_map (active_lacks l.honest l.config) l.actives
