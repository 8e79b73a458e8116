use Rattle.std.proofs.Common.{◌≡◌, ◌*◌, ◌^◌, ◌≤ℤ◌, ◌+ℤ◌, pos, drop}
use Rattle.spec_terms.specs.Faults.{sum_of_parts}
use Rattle.bm_syntax.specs.View.{parts_view}
use Rattle.bm_wellformed.proofs.flaw.sum_of_parts.Given as goal

abbrev pub invariant-loop-part : goal.invariant-loop-part
invariant-loop-part l = record {
  low : pos 0 ≤ℤ l.sum;
  high : l.sum ≤ℤ pos (l.part-index * 2 ^ 64);
  rest : l.sum +ℤ pos (sum_of_parts (parts_view (drop l.part-index l.parts))) ≡ pos (sum_of_parts (parts_view l.parts));
}
