use Rattle.std.proofs.Common.{◌≡◌, ◌++◌, drop}
use Rattle.std.specs.Prelude.{filter, ◌==◌}
use Rattle.draw_rows.proofs.possible.actives_of.Given as goal

abbrev pub invariant-loop-active : goal.invariant-loop-active
invariant-loop-active l =
    l.list.items ++ filter (λ a. a.contract == l.contract) (drop l.active-index l.config.active) ≡ filter (λ a. a.contract == l.contract) l.config.active
