use Rattle.std.proofs.Common.{◌≡◌, ◌++◌, drop, map}
use Rattle.spec_terms.specs.Precondition.{persistent}
use Rattle.spec_next.specs.Requirements.{unmet, isnt_gone}
use Rattle.spec_next.specs.declared.requirement.Requirement.TheVariants as outstanding
use Rattle.next_events.proofs.outstanding_before.put_gone.Given as goal

abbrev pub invariant-loop-entry : goal.invariant-loop-entry
invariant-loop-entry l =
    l.requirements ++ unmet (map (λ d. (isnt_gone l.config l.contract (d.0), outstanding.Gone (d.0))) (persistent (drop l.entry-index l.pre)))
    ≡ l.initial.requirements ++ unmet (map (λ d. (isnt_gone l.config l.contract (d.0), outstanding.Gone (d.0))) (persistent l.pre))
