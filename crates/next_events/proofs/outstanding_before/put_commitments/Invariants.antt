use Rattle.std.proofs.Common.{◌≡◌, ◌++◌, drop, map}
use Rattle.spec_calculus.specs.Beginning.{has_committed}
use Rattle.spec_next.specs.Requirements.{unmet}
use Rattle.spec_next.specs.declared.requirement.Requirement.TheVariants as outstanding
use Rattle.next_events.proofs.outstanding_before.put_commitments.Given as goal

abbrev pub invariant-loop-party : goal.invariant-loop-party
invariant-loop-party l =
    l.requirements ++ unmet (map (λ party. (has_committed l.config.committed l.contract party, outstanding.Commitment party l.contract))
    (drop l.party-index l.parties))
    ≡ l.initial.requirements ++ unmet (map (λ party. (has_committed l.config.committed l.contract party, outstanding.Commitment party l.contract)) l.parties)
