use Rattle.std.proofs.Common.{◌≡◌, drop}
use Rattle.spec_data.specs.Lists.{look_up}
use Rattle.spec_terms.specs.Precondition.{volatile}
use Rattle.draw_rows.proofs.conditions.puts_condition.Given as goal

abbrev pub invariant-loop-entry : goal.invariant-loop-entry
invariant-loop-entry l =
    look_up l.deposit (volatile (drop l.entry-index l.pre)) ≡ look_up l.deposit (volatile l.pre)
