use Rattle.std.proofs.Common.{◌≡◌, ◌+◌}
use Rattle.std.specs.VecDeque.Iter.{deque_iter_rest}
use Rattle.spec_page.specs.Balances.{held_by}
use Rattle.draw_rows.proofs.balances.held_by.Given as goal

abbrev pub invariant-loop-deposit : goal.invariant-loop-deposit
invariant-loop-deposit l =
    l.sum + held_by (deque_iter_rest l.deposit-iterator) l.party ≡ held_by l.deposits.items l.party
