use Rattle.std.proofs.Common.{◌≡◌, ◌*◌, ◌^◌, ◌≤ℤ◌, ◌+ℤ◌, pos, drop}
use Rattle.spec_terms.specs.Precondition.{value_of_puts, volatile}
use Rattle.bm_wellformed.proofs.entries.value_of_puts.Given as goal

abbrev pub invariant-loop-name : goal.invariant-loop-name
invariant-loop-name l = record {
  low : pos 0 ≤ℤ l.total;
  high : l.total ≤ℤ pos (l.name-index * 2 ^ 51);
  rest : l.total +ℤ pos (value_of_puts (volatile l.pre) (drop l.name-index l.puts)) ≡ pos (value_of_puts (volatile l.pre) l.puts);
}
