use Rattle.std.proofs.Common.{◌≡◌, [], drop}
use Rattle.spec_terms.specs.Precondition.{deposits}
use Rattle.spec_next.specs.Bindings.{bindings_onto}
use Rattle.next_events.proofs.binding.bindings_for.Given as goal

abbrev pub invariant-loop-entry : goal.invariant-loop-entry
invariant-loop-entry l =
    bindings_onto l.live.items l.bound (deposits (drop l.entry-index l.pre)) ≡ bindings_onto l.live.items [] (deposits l.pre)
