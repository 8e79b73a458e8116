use Rattle.std.proofs.Common.{◌≡◌, ◌+◌, drop}
use Rattle.std.specs.Prelude.{sum_by}
use Rattle.draw_rows.proofs.balances.sum_of.Given as goal

abbrev pub invariant-loop-sum : goal.invariant-loop-sum
invariant-loop-sum l =
    l.total + sum_by (λ v. v) (drop l.sum-index l.sums) ≡ sum_by (λ v. v) l.sums
