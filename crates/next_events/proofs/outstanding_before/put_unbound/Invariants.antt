use Rattle.std.proofs.Common.{◌≡◌, ◌++◌, drop}
use Rattle.spec_terms.specs.Precondition.{deposits, names_of}
use Rattle.spec_next.specs.Requirements.{unmet, bound}
use Rattle.next_events.proofs.outstanding_before.put_unbound.Given as goal

abbrev pub invariant-loop-entry : goal.invariant-loop-entry
invariant-loop-entry l =
    l.requirements ++ unmet (bound (names_of (deposits (drop l.entry-index l.pre))) l.bindings)
    ≡ l.initial.requirements ++ unmet (bound (names_of (deposits l.pre)) l.bindings)
