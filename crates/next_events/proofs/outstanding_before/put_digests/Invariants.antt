use Rattle.std.proofs.Common.{◌≡◌, ◌++◌, drop, map}
use Rattle.std.specs.Prelude.{◌||◌}
use Rattle.spec_data.specs.Lists.{is_among}
use Rattle.spec_terms.specs.Precondition.{names_of, secrets_of}
use Rattle.spec_next.specs.Requirements.{unmet}
use Rattle.spec_next.specs.declared.requirement.Requirement.TheVariants as outstanding
use Rattle.next_events.proofs.outstanding_before.put_digests.Given as goal

abbrev pub invariant-loop-entry : goal.invariant-loop-entry
invariant-loop-entry l =
    l.requirements ++ unmet (map (λ x. (l.honest || is_among x (names_of l.digests), outstanding.Digest l.party l.contract x))
    (secrets_of l.party (drop l.entry-index l.pre)))
    ≡ l.initial.requirements ++ unmet (map (λ x. (l.honest || is_among x (names_of l.digests), outstanding.Digest l.party l.contract x))
    (secrets_of l.party l.pre))
