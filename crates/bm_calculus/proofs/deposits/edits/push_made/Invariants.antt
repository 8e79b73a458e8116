use Rattle.std.proofs.Common.{◌≡◌, ◌+◌, ◌≤◌, ◌++◌, drop, length}
use Rattle.std.specs.VecDeque.{deque_len, deque_capacity}
use Rattle.spec_calculus.specs.Moves.{made}
use Rattle.bm_calculus.proofs.deposits.edits.push_made.Given as goal

abbrev pub invariant-loop-owner : goal.invariant-loop-owner
invariant-loop-owner l = record {
  number : l.number ≡ l.next + l.owner-index;
  room : deque_len l.deposits + length (drop l.owner-index l.outputs) ≤ deque_capacity l.deposits;
  told : l.deposits.items ++ made l.number (drop l.owner-index l.outputs) ≡ l.initial.deposits.items ++ made l.next l.outputs;
}
