use Rattle.std.proofs.Common.{◌≡◌, ◌+◌}
use Rattle.std.specs.VecDeque.Iter.{deque_iter_rest}
use Rattle.spec_calculus.specs.Branches.{gone, total_value}
use Rattle.next_events.proofs.leads.gone_value.Given as goal

abbrev pub invariant-loop-deposit : goal.invariant-loop-deposit
invariant-loop-deposit l =
    l.total + total_value (gone (deque_iter_rest l.deposit-iterator) l.numbers) ≡ total_value (gone l.live.items l.numbers)
