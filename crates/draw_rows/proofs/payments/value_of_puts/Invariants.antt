use Rattle.std.proofs.Common.{◌≡◌, ◌+◌, drop}
use Rattle.spec_terms.specs.Precondition.{volatile, value_of_puts}
use Rattle.draw_rows.proofs.payments.value_of_puts.Given as goal

abbrev pub invariant-loop-name : goal.invariant-loop-name
invariant-loop-name l =
    l.total + value_of_puts (volatile l.pre) (drop l.name-index l.puts) ≡ value_of_puts (volatile l.pre) l.puts
