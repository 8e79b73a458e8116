use Rattle.std.proofs.Common.{◌≡◌}
use Rattle.std.specs.VecDeque.Iter.{deque_iter_rest}
use Rattle.spec_terms.specs.Precondition.{holding}
use Rattle.spec_next.specs.Bindings.{first_fitting}
use Rattle.next_events.proofs.binding.first_fitting.Given as goal

abbrev pub invariant-loop-deposit : goal.invariant-loop-deposit
invariant-loop-deposit l =
    first_fitting (holding l.party l.value) l.bound (deque_iter_rest l.deposit-iterator)
    ≡ first_fitting (holding l.party l.value) l.bound l.live.items
