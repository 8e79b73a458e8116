use Rattle.std.proofs.Common.{◌≡◌, ◌+◌, drop}
use Rattle.std.specs.Prelude.{sum_by}
use Rattle.draw_rows.proofs.balances.all_money.Given as goal

abbrev pub invariant-loop-deposit : goal.invariant-loop-deposit
invariant-loop-deposit l =
    l.sum + sum_by (λ d. d.1) (drop l.deposit-index l.deposits) ≡ sum_by (λ d. d.1) l.deposits
