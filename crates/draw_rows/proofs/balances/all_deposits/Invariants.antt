use Rattle.std.proofs.Common.{◌≡◌, ◌+◌}
use Rattle.std.specs.VecDeque.Iter.{deque_iter_rest}
use Rattle.std.specs.Prelude.{sum_by}
use Rattle.draw_rows.proofs.balances.all_deposits.Given as goal

abbrev pub invariant-loop-deposit : goal.invariant-loop-deposit
invariant-loop-deposit l =
    l.sum + sum_by (λ d. d.value) (deque_iter_rest l.deposit-iterator) ≡ sum_by (λ d. d.value) l.deposits.items
