use Rattle.std.proofs.Common.{◌≡◌, ◌++◌, map}
use Rattle.std.specs.VecDeque.Iter.{deque_iter_rest}
use Rattle.serde_json.specs.View.{view}
use Rattle.spec_next.specs.JsonForm.{deposit_value}
use Rattle.next_json.proofs.outputs.add_deposits.Given as goal

abbrev pub invariant-loop-deposit : goal.invariant-loop-deposit
invariant-loop-deposit l =
    map view l.values.items ++ map deposit_value (deque_iter_rest l.deposit-iterator)
    ≡ map view l.initial.values.items ++ map deposit_value l.deposits.items
