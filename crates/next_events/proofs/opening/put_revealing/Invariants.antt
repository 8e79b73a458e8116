use Rattle.std.proofs.Common.{◌≡◌, ◌++◌, drop, map}
use Rattle.std.specs.Prelude.{filter}
use Rattle.spec_data.specs.Lists.{is_among}
use Rattle.spec_terms.specs.Precondition.{secrets}
use Rattle.spec_run.specs.declared.event.Event.TheVariants as events
use Rattle.next_events.proofs.opening.put_revealing.Given as goal

abbrev pub invariant-loop-entry : goal.invariant-loop-entry
invariant-loop-entry l =
    l.found ++ map (λ x. events.Reveal l.contract (x.1) (x.0)) (filter (λ x. is_among (x.1) l.honest) (secrets (drop l.entry-index l.pre)))
    ≡ l.initial.found ++ map (λ x. events.Reveal l.contract (x.1) (x.0)) (filter (λ x. is_among (x.1) l.honest) (secrets l.pre))
