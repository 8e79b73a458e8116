use Rattle.std.proofs.Common.{◌≡◌, drop}
use Rattle.spec_terms.specs.Precondition.{persistent}
use Rattle.spec_next.specs.Candidates.{has_started}
use Rattle.draw_rows.proofs.openings.has_started.Given as goal

abbrev pub invariant-loop-entry : goal.invariant-loop-entry
invariant-loop-entry l =
    has_started l.config l.contract (persistent (drop l.entry-index l.pre)) l.party ≡ has_started l.config l.contract (persistent l.pre) l.party
