use Rattle.std.proofs.Common.{◌≡◌, ◌++◌, drop, map}
use Rattle.spec_terms.specs.Precondition.{persistent}
use Rattle.spec_calculus.specs.Beginning.{is_init_authorised}
use Rattle.spec_next.specs.Requirements.{unmet}
use Rattle.spec_next.specs.declared.requirement.Requirement.TheVariants as outstanding
use Rattle.next_events.proofs.outstanding_before.put_unsigned.Given as goal

abbrev pub invariant-loop-entry : goal.invariant-loop-entry
invariant-loop-entry l =
    l.requirements ++ unmet (map (λ d. (
      is_init_authorised l.config.init_authorised l.contract (d.0),
      outstanding.Start (d.1).owner
          l.contract,
    )) (persistent (drop l.entry-index l.pre)))
    ≡ l.initial.requirements ++ unmet (map (λ d. (
      is_init_authorised l.config.init_authorised l.contract (d.0),
      outstanding.Start
          (d.1).owner l.contract,
    )) (persistent l.pre))
