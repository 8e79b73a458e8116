use Rattle.std.proofs.Common.{◌≡◌, ◌*◌, ◌^◌, ◌≤ℤ◌, ◌+ℤ◌, pos, drop}
use Rattle.spec_terms.specs.Precondition.{total_of, persistent}
use Rattle.bm_wellformed.proofs.entries.persistent_total.Given as goal

abbrev pub invariant-loop-entry : goal.invariant-loop-entry
invariant-loop-entry l = record {
  low : pos 0 ≤ℤ l.total;
  high : l.total ≤ℤ pos (l.entry-index * 2 ^ 51);
  rest : l.total +ℤ pos (total_of (persistent (drop l.entry-index l.pre))) ≡ pos (total_of (persistent l.pre));
}
