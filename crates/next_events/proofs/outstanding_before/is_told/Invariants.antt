use Rattle.std.proofs.Common.{◌≡◌, drop}
use Rattle.spec_data.specs.Lists.{is_among}
use Rattle.spec_terms.specs.Precondition.{names_of}
use Rattle.next_events.proofs.outstanding_before.is_told.Given as goal

abbrev pub invariant-loop-digest : goal.invariant-loop-digest
invariant-loop-digest l =
    is_among l.name (names_of (drop l.digest-index l.digests)) ≡ is_among l.name (names_of l.digests)
