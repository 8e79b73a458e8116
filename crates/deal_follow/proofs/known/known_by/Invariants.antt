use Rattle.std.proofs.Common.{◌≡◌, ◌++◌, map, drop}
use Rattle.deal_follow.specs.Boards.{known_in, numbered}
use Rattle.deal_follow.proofs.known.known_by.Given as goal

abbrev pub invariant-loop-number : goal.invariant-loop-number
invariant-loop-number l =
    map known_in l.known ++ numbered l.number (drop l.number l.transactions) ≡ numbered 0 l.transactions
