use Rattle.std.proofs.Common.{◌≡◌, drop}
use Rattle.spec_data.specs.Lists.{is_among}
use Rattle.spec_terms.specs.Precondition.{names_of}
use Rattle.next_events.proofs.outstanding_before.is_bound.Given as goal

abbrev pub invariant-loop-binding : goal.invariant-loop-binding
invariant-loop-binding l =
    is_among l.name (names_of (drop l.binding-index l.bindings)) ≡ is_among l.name (names_of l.bindings)
