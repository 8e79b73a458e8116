use Rattle.std.proofs.Common.{◌≡◌, ◌++◌, drop}
use Rattle.spec_terms.specs.Precondition.{deposits, names_of}
use Rattle.spec_next.specs.FirstLines.{bound_from}
use Rattle.next_text.proofs.first_events.bindings.Given as goal

abbrev pub invariant-loop-entry : goal.invariant-loop-entry
invariant-loop-entry l =
    l.bound ++ bound_from l.number (names_of (deposits (drop l.entry-index l.pre))) ≡ bound_from 0 (names_of (deposits l.pre))
