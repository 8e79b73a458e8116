use Rattle.std.proofs.Common.{◌≡◌, ◌+◌, drop}
use Rattle.spec_terms.specs.Precondition.{persistent, total_of}
use Rattle.draw_rows.proofs.payments.persistent_total.Given as goal

abbrev pub invariant-loop-entry : goal.invariant-loop-entry
invariant-loop-entry l =
    l.total + total_of (persistent (drop l.entry-index l.pre)) ≡ total_of (persistent l.pre)
