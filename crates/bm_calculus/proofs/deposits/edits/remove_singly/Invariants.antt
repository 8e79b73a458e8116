use Rattle.std.proofs.Common.{◌≡◌, ◌≤◌, drop, map, true}
use Rattle.std.specs.VecDeque.{deque_len, deque_capacity}
use Rattle.spec_calculus.specs.Moves.{kept}
use Rattle.spec_calculus.specs.InOrder.{are_ascending}
use Rattle.bm_calculus.proofs.deposits.edits.remove_singly.Given as goal

abbrev pub invariant-loop-number : goal.invariant-loop-number
invariant-loop-number l = record {
  ascending : are_ascending (map (λ d. d.number) l.deposits.items) ≡ true;
  told : kept l.deposits.items (drop l.number-index l.numbers) ≡ kept l.initial.deposits.items l.numbers;
  len : deque_len l.deposits ≤ deque_len l.initial.deposits;
  capacity : deque_capacity l.deposits ≡ deque_capacity l.initial.deposits;
}
