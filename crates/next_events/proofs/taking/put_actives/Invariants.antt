use Rattle.std.proofs.Common.{◌≡◌, ◌++◌, drop}
use Rattle.std.specs.Prelude.{filter, ◌==◌, flat_map}
use Rattle.spec_calculus.specs.declared.parts.ActiveContract.{ActiveContract}
use Rattle.spec_next.specs.Candidates.{taking_active}
use Rattle.next_events.proofs.taking.put_actives.Given as goal

abbrev pub invariant-loop-active : goal.invariant-loop-active
invariant-loop-active l =
    l.found ++ flat_map (taking_active l.config l.people) (filter (λ (a : ActiveContract). a.contract == l.contract) (drop l.active-index l.config.active))
    ≡ l.initial.found ++ flat_map (taking_active l.config l.people) (filter (λ (a : ActiveContract). a.contract == l.contract) l.config.active)
