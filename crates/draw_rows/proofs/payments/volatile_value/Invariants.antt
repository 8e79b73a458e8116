use Rattle.std.proofs.Common.{◌≡◌, drop}
use Rattle.spec_data.specs.Lists.{look_up}
use Rattle.spec_terms.specs.Precondition.{volatile, value_of}
use Rattle.draw_rows.proofs.payments.volatile_value.Given as goal

abbrev pub invariant-loop-entry : goal.invariant-loop-entry
invariant-loop-entry l =
    value_of (look_up l.deposit (volatile (drop l.entry-index l.pre))) ≡ value_of (look_up l.deposit (volatile l.pre))
